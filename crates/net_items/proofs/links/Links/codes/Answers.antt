use Rattle.std.proofs.Common.{◌≡◌, ◌<◌, ℕ, List, eqb, subst}
use Rattle.std.specs.List.{list_any}
use Rattle.net_items.specs.declared.links.Link.{Link}
use Rattle.net_items.specs.Links.{has_bit}
use Rattle.net_items.proofs.LinkLemmas.{codes_are}
use Rattle.net_items.proofs.links.Links.codes.Goals as goal

pub returns : goal.returns
returns c = subst (λ (links : List Link). (slc : ℕ) → slc < 16 → has_bit c.self.inside.there slc ≡ list_any (λ (l : Link). eqb l.slc slc) links) c.self.view_is (codes_are c.self.inside.there c.self.inside.marked)
