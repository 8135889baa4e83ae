use Rattle.std.proofs.Common.{◌≡◌, ◌≤◌, ◌*◌, take}
use Rattle.what_if.specs.Mending.{cost}
use Rattle.what_if.proofs.costs.Cost.of.Given as goal

-- what the links so far take
abbrev pub invariant-loop-link : goal.invariant-loop-link
invariant-loop-link l = record {
  value : l.sum ≡ cost (take l.link-index l.links);
  few : l.sum.marks ≤ l.link-index * 5;
}
