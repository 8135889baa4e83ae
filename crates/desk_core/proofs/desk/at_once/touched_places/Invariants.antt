use Rattle.std.proofs.Common.{◌≡◌, ◌++◌, map, drop}
use Rattle.net_items.specs.declared.items.Plan.{Plan}
use Rattle.dirty_sets.specs.Bits.{is_marked}
use Rattle.desk_core.proofs.desk.at_once.touched_places.Given as goal

-- the places so far and those to come make all
abbrev pub invariant-loop-position : goal.invariant-loop-position
invariant-loop-position l =
    l.places.items ++ map (λ (p : Plan). is_marked l.touched p.dest) (drop l.position l.net.plans) ≡ map (λ (p : Plan). is_marked l.touched p.dest) l.net.plans
