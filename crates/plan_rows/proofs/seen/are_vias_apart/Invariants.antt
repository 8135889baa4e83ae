use Rattle.std.proofs.Common.{◌≡◌, length}
use Rattle.net_items.specs.Lookups.{concat_vias}
use Rattle.net_sets.specs.Sets.{is_distinct}
use Rattle.plan_rows.proofs.seen.are_vias_apart.Given as goal

abbrev pub invariant-loop-first : goal.invariant-loop-first
invariant-loop-first l = is_distinct (concat_vias l.rest) ≡ is_distinct (concat_vias l.classes)

abbrev pub decreases-loop-first : goal.decreases-loop-first
decreases-loop-first l = length l.rest
