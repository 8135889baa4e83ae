use Rattle.std.proofs.Common.{◌≡◌, ◌++◌, length}
use Rattle.net_items.specs.Lookups.{concat_vias}
use Rattle.net_sets.specs.Sets.{is_distinct}
use Rattle.plan_rows.proofs.seen.are_new.Given as goal

abbrev pub invariant-loop-via : goal.invariant-loop-via
invariant-loop-via l = is_distinct (l.rest ++ concat_vias l.later) ≡ is_distinct (l.vias ++ concat_vias l.later)

abbrev pub decreases-loop-via : goal.decreases-loop-via
decreases-loop-via l = length l.rest
