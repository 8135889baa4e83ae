-- the links of the codes before have their bits
use Rattle.std.proofs.Common.{◌≡◌, length}
use Rattle.net_items.specs.Links.{IsMask}
use Rattle.net_items.proofs.LinkLemmas.{links_to}
use Rattle.net_items.proofs.links.Links.mask.Given as goal

abbrev pub invariant-loop-slc : goal.invariant-loop-slc
invariant-loop-slc l = record {
  position : l.position ≡ length (links_to l.self-inside.there l.self-inside.marked l.slc);
  mask : IsMask (links_to l.self-inside.there l.self-inside.marked l.slc) l.mask;
}
