use Rattle.std.proofs.Common.{◌≡◌, ℕ, length, ◌*◌, ◌≤◌, ◌<◌, slice_index}
use Rattle.std.specs.List.{AllWithin}
use Rattle.net_sets.specs.Joints.{joint_of}
use Rattle.excerpts.specs.declared.index.Joint.{Joint}
use Rattle.excerpts.specs.Index.{IsFirstJoint}
use Rattle.excerpts.proofs.joints.firsts_of.Given as goal

-- the places of the points that were gone over, and that the joints before the last of them are of smaller pairs
abbrev pub invariant-loop-y : goal.invariant-loop-y
invariant-loop-y l = record {
  long : length l.firsts.items ≡ l.y;
  right : (k : ℕ) → k < l.y → IsFirstJoint (joint_of k 0) l.joints (slice_index l.firsts.items k);
  within : l.at ≤ length l.joints;
  less : AllWithin (λ (j : Joint). j.pair < l.y * 16384) l.joints 0 l.at;
}
