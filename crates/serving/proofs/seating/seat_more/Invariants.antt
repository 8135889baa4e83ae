use Rattle.std.proofs.Common.{◌≡◌, ℕ, ◌+◌, ◌<◌}
use Rattle.std.specs.Prelude.{slice_index_or, vec_len}
use Rattle.serving.specs.Sittings.{AreSeatedTo, seat_at}
use Rattle.serving.proofs.seating.seat_more.Given as goal

-- the last sessions are seated; the seats that are left are the first ones
abbrev pub invariant-loop-seat : goal.invariant-loop-seat
invariant-loop-seat g l =
    ((j : ℕ) (d : _) → j < vec_len l.seats → slice_index_or l.seats.items j d ≡ seat_at g.N.Naming.table l.fn.hub.state (j + 1))
    × AreSeatedTo (vec_len l.seats + 1) g.N.Naming.table l.fn.hub.state l.fn.channels.items l.channels.items l.sittings.items

abbrev pub decreases-loop-seat : goal.decreases-loop-seat
decreases-loop-seat g l = vec_len l.seats
