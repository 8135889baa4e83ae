use Rattle.std.proofs.Common.{◌≡◌, ◌++◌, map, drop}
use Rattle.transfer_state.specs.Routing.{RoutingSlotValue, settled_choices}
use Rattle.desk_core.proofs.targets.choices_of_all.Given as goal

-- the choices so far and those to come make all
abbrev pub invariant-loop-i : goal.invariant-loop-i
invariant-loop-i l = l.list.items ++ map (λ (s : RoutingSlotValue). settled_choices s.excerpt) (drop l.i l.slots) ≡ map (λ (s : RoutingSlotValue). settled_choices s.excerpt) l.slots
