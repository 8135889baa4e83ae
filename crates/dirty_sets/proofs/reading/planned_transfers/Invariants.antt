use Rattle.std.proofs.Common.{◌≡◌, ◌&&◌, ◌||◌, ℕ, length}
use Rattle.std.specs.Prelude.{is_some}
use Rattle.net_items.specs.Lookups.{row_at}
use Rattle.dirty_sets.specs.Bits.{is_marked}
use Rattle.dirty_sets.proofs.reading.planned_transfers.Given as goal

-- those so far and those of the rest are all
abbrev pub invariant-loop-row : goal.invariant-loop-row
invariant-loop-row l = (x : ℕ) → (is_marked l.codes x || (is_marked l.transfers x && is_some (row_at l.rest x))) ≡ (is_marked l.transfers x && is_some (row_at l.rows x))

abbrev pub decreases-loop-row : goal.decreases-loop-row
decreases-loop-row l = length l.rest
