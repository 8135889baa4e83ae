use Rattle.std.proofs.Common.{◌≡◌, ◌++◌, map, drop}
use Rattle.net_items.specs.declared.items.Plan.{Plan}
use Rattle.excerpts.specs.Excerpt.{excerpt_in}
use Rattle.transfer_state.specs.Routing.{settled_choices}
use Rattle.net_versions.specs.Versions.{all_choices}
use Rattle.net_versions.proofs.versions.each_followed.Given as goal

-- the choices so far and those to come make all
abbrev pub invariant-loop-position : goal.invariant-loop-position
invariant-loop-position l = l.list.items ++ map (λ (p : Plan). settled_choices (excerpt_in l.net p)) (drop l.position l.net.plans) ≡ all_choices l.net
