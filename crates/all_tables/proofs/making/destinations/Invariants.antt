use Rattle.std.proofs.Common.{◌≡◌, map, take}
use Rattle.net_items.specs.declared.items.Plan.{Plan}
use Rattle.all_tables.proofs.making.destinations.Given as goal

abbrev pub invariant-loop-position : goal.invariant-loop-position
invariant-loop-position l = l.dests.items ≡ map (λ (p : Plan). p.dest) (take l.position l.net.plans)
