use Rattle.std.proofs.Common.{◌≡◌, ℕ, ◌+◌, ◌<◌}
use Rattle.std.specs.Prelude.{slice_index_or, vec_len}
use Rattle.serving.specs.Sittings.{seat_at}
use Rattle.serving.proofs.seating.admit_more.Given as goal

-- so many seats were added, each with its number
abbrev pub invariant-loop-at : goal.invariant-loop-at
invariant-loop-at l =
    (l.unnamed.table ≡ l.fn.unnamed.table) × (l.unnamed.state ≡ l.fn.unnamed.state) × (l.unnamed.seats ≡ l.at + 1) × (vec_len l.seats ≡ l.at)
    × ((j : ℕ) (d : _) → j < l.at → slice_index_or l.seats.items j d ≡ seat_at l.fn.unnamed.table l.fn.unnamed.state (j + 1))
