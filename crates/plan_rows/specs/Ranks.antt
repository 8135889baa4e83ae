-- A table of the ranks of a plan's rows.
use Rattle.std.specs.Prelude.{◌≡◌, ℕ, ◌&&◌, ◌==◌, not, nat_le, ◌<◌, List, slice_index_or}
use Rattle.net_items.specs.declared.lists.Row.{Row}
use Rattle.plan_rows.specs.Rows.{has_lower_row}

-- a code's place holds one more than the least rank of its rows, and 0 if it has none: so it tells whether the
-- code has a row below a rank
abbrev pub IsRanks : List ℕ → List Row → Type 0
IsRanks ranks rows = (z rank : ℕ) → z < 16384 → (not (slice_index_or ranks z 0 == 0) && nat_le (slice_index_or ranks z 0) rank) ≡ has_lower_row rows z rank
