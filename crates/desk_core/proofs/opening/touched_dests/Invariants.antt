use Rattle.std.proofs.Common.{◌≡◌, map, take}
use Rattle.std.specs.Prelude.{filter}
use Rattle.net_items.specs.declared.items.Plan.{Plan}
use Rattle.dirty_sets.specs.Bits.{is_marked}
use Rattle.desk_core.proofs.opening.touched_dests.Given as goal

-- those that were touched so far
abbrev pub invariant-loop-position : goal.invariant-loop-position
invariant-loop-position l = l.dests.items ≡ filter (is_marked l.touched) (map (λ (p : Plan). p.dest) (take l.position l.net.plans))
