-- What the links of a new set keep.
use Rattle.std.proofs.Common.{ℕ, List, [], ◌∷◌}
use Rattle.net_items.specs.declared.links.Link.{Link}
use Rattle.net_items.specs.Keyed.{IsRising}
use Rattle.net_items.proofs.KeyedLemmas.{IsRising-put}
use Rattle.net_sets.specs.Sets.{new_link, new_links}

-- new links rise by code
pub IsRising-new_links : (slcs : List ℕ) → IsRising (λ (l : Link). l.slc) (new_links slcs)
IsRising-new_links [] = tt
IsRising-new_links (slc ∷ slcs) = IsRising-put (λ (l : Link). l.slc) (new_link slc) (new_links slcs) (IsRising-new_links slcs)
