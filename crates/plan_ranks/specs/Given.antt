-- Ranks that are given to the rows of plans (own).
use Rattle.std.specs.Prelude.{◌≡◌, ℕ, ◌≤◌, List, length, map, take}
use Rattle.net_items.specs.declared.lists.Row.{Row}
use Rattle.plan_ranks.specs.declared.given.RowRank.{RowRank}

-- the rank of a row of the plan of a destination
abbrev pub row_rank : ℕ → Row → RowRank
row_rank dest r = record { dest = dest; point = r.point; rank = r.rank }

-- a row but for its rank
abbrev pub unranked_row : Row → Row
unranked_row r = record r { rank = 0 }

-- rows with the first of the ranks that are given, one each
pub record AreRanked (dest : ℕ) (rows : List Row) (ranks : List RowRank) (ranked : List Row) : Type 0 where
  pub many : length rows ≤ length ranks
  pub same : map unranked_row ranked ≡ map unranked_row rows
  pub told : map (row_rank dest) ranked ≡ take (length rows) ranks
