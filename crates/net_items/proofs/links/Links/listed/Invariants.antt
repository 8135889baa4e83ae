-- the links of the codes before
use Rattle.std.proofs.Common.{◌≡◌}
use Rattle.net_items.proofs.LinkLemmas.{links_to}
use Rattle.net_items.proofs.links.Links.listed.Given as goal

abbrev pub invariant-loop-slc : goal.invariant-loop-slc
invariant-loop-slc l = l.list ≡ links_to l.self-inside.there l.self-inside.marked l.slc
