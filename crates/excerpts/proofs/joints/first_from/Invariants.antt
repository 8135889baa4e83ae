use Rattle.std.proofs.Common.{length, ◌-◌, ◌≤◌, ◌<◌}
use Rattle.std.specs.List.{AllWithin}
use Rattle.excerpts.specs.declared.index.Joint.{Joint}
use Rattle.excerpts.proofs.joints.first_from.Given as goal

-- the joints that were passed over are of smaller pairs
abbrev pub invariant-loop-at : goal.invariant-loop-at
invariant-loop-at l = record {
  within : l.at ≤ length l.joints;
  less : AllWithin (λ (j : Joint). j.pair < l.pair) l.joints 0 l.at;
}

abbrev pub decreases-loop-at : goal.decreases-loop-at
decreases-loop-at l = length l.joints - l.at
