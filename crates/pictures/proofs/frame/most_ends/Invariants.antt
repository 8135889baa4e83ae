use Rattle.std.proofs.Common.{◌≡◌, ◌≤◌, take}
use Rattle.pictures.specs.Layout.{most_ends}
use Rattle.pictures.proofs.frame.most_ends.Given as goal

abbrev pub invariant-loop-hub : goal.invariant-loop-hub
invariant-loop-hub l = record {
  most : l.most ≡ most_ends l.stands (take l.hub-index l.hubs);
  few : l.most ≤ 1024;
}
