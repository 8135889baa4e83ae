use Rattle.std.proofs.Common.{◌≡◌, ◌++◌, map, drop}
use Rattle.dirty_sets.specs.Bits.{is_marked}
use Rattle.desk_core.specs.Targets.{routing_slot_of}
use Rattle.desk_core.proofs.opening.all_slots.Given as goal

-- the places so far and those to come make all
abbrev pub invariant-loop-position : goal.invariant-loop-position
invariant-loop-position l = l.slots.items ++ map (routing_slot_of l.net (is_marked l.touched)) (drop l.position l.net.plans) ≡ map (routing_slot_of l.net (is_marked l.touched)) l.net.plans
