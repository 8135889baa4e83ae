-- Rows of a plan that need each other, so that there are no ranks.
use Rattle.std.specs.Prelude.{◌≡◌, ℕ, Bool, true, false, ◌&&◌, ◌||◌, List, [], ◌∷◌}
use Rattle.std.specs.List.{list_any}
use Rattle.net_items.specs.declared.items.Point.{Point}
use Rattle.net_items.specs.declared.lists.Row.{Row}
use Rattle.plan_rows.specs.Rows.{is_mate}
use Rattle.plan_rows.specs.Uses.{row_uses, is_flagged}
use Rattle.plan_ranks.specs.Ranks.{HasNoRanks}
use Rattle.plan_ranks.specs.declared.faults.RankFault.{RankFault}
use Rattle.plan_ranks.specs.declared.faults.RankFault.TheVariants.{OutOfMemory, MateLoop, Loop, TooDeep}

-- a row of y has z as a via, and that isn't the destination
abbrev pub leads : ℕ → List Row → ℕ → ℕ → Bool
leads dest rows y z = list_any (row_uses y z dest) rows

-- y has the mate flag, and z is its mate
abbrev pub may_use : List Point → List Row → ℕ → ℕ → Bool
may_use points rows y z = is_mate points y z && list_any (is_flagged y) rows

-- y has z as a via, or one of the two may use the other as its mate
abbrev pub is_next : List Point → ℕ → List Row → ℕ → ℕ → Bool
is_next points dest rows y z = leads dest rows y z || (may_use points rows y z || may_use points rows z y)

-- from y each leads on to the next, and the last to the end
abbrev pub is_chain : (ℕ → ℕ → Bool) → ℕ → ℕ → List ℕ → Bool
is_chain next end y [] = next y end
is_chain next end y (z ∷ zs) = next y z && is_chain next end z zs

-- some step of the chain does
abbrev pub has_step : (ℕ → ℕ → Bool) → ℕ → ℕ → List ℕ → Bool
has_step step end y [] = step y end
has_step step end y (z ∷ zs) = step y z || has_step step end z zs

-- each point has the next as a via or as its mate, the last the first, and at least one as a via
abbrev pub is_loop : List Point → ℕ → List Row → List ℕ → Bool
is_loop points dest rows [] = false
is_loop points dest rows (y ∷ ys) = is_chain (is_next points dest rows) y y ys && has_step (leads dest rows) y y ys

-- what is told where rows have no ranks
abbrev pub IsRankFault : List Point → ℕ → List Row → RankFault → Type 0
IsRankFault points dest rows OutOfMemory = Unit {0}
IsRankFault points dest rows (MateLoop y z) = HasNoRanks points dest rows × (is_loop points dest rows (y ∷ z ∷ []) ≡ true) × (is_mate points y z ≡ true)
IsRankFault points dest rows (Loop codes) = HasNoRanks points dest rows × (is_loop points dest rows codes.items ≡ true)
IsRankFault points dest rows TooDeep = HasNoRanks points dest rows
