use Rattle.std.proofs.Common.{◌≡◌, ◌≤◌, drop, length}
use Rattle.dirty_sets.specs.Waiting.{least, out}
use Rattle.dirty_sets.proofs.waiting.Waiting.first_out.Given as goal

-- the least that is out from the place on
abbrev pub invariant-loop-position : goal.invariant-loop-position
invariant-loop-position l = record {
  found : l.first ≡ least (out (drop l.position l.self));
  in_range : l.position ≤ length l.self;
}

abbrev pub decreases-loop-position : goal.decreases-loop-position
decreases-loop-position l = l.position
