use Rattle.std.proofs.Common.{◌≡◌, ◌++◌, take}
use Rattle.std.specs.List.{flat_map}
use Rattle.plan_ranks.specs.Ranks.{via_needs}
use Rattle.plan_ranks.proofs.needs.put_classes.Given as goal

abbrev pub invariant-loop-vias : goal.invariant-loop-vias
invariant-loop-vias l = l.needs.items ≡ l.fn.needs.items ++ flat_map (λ vias. flat_map (via_needs l.rows l.dest l.place) vias) (take l.vias-index l.classes)
