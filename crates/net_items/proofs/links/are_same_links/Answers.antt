-- `==` of links decides if they are equal
use Rattle.std.proofs.Common.{rules}
use Rattle.std.proofs.lemmas.Bool.{and_parts}
use Rattle.std.proofs.lemmas.Slice.Eq.{slice_eq-Decides}
use Rattle.net_items.proofs.links.are_same_links.Goals as goal

pub returns : goal.returns
returns c = slice_eq-Decides (λ x y. search (rules, and_parts)) _ _ _ c.eq.ensures
