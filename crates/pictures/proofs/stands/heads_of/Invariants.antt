use Rattle.std.proofs.Common.{◌≡◌, ◌≤◌, take, length}
use Rattle.std.specs.List.{flat_map}
use Rattle.pictures.specs.Layout.{head_in}
use Rattle.pictures.proofs.stands.heads_of.Given as goal

abbrev pub invariant-loop-stand : goal.invariant-loop-stand
invariant-loop-stand l = record {
  value : l.heads.items ≡ flat_map (head_in l.stands l.inhabited) (take l.stand-index l.stands);
  few : length l.heads.items ≤ l.stand-index;
}
