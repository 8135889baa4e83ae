use Rattle.std.proofs.Common.{◌≡◌, ◌∷◌, [], drop, map}
use Rattle.std.specs.Option.{option_map}
use Rattle.what_if.specs.Mending.{alone, cheaper, least_link, least_of}
use Rattle.what_if.proofs.costs.least_link.Given as goal

-- the least so far and what is to come make the least of all
abbrev pub invariant-loop-link : goal.invariant-loop-link
invariant-loop-link l =
    cheaper (option_map (λ one. one ∷ []) l.least) (least_of (map (alone l.set.id) (drop l.link-index l.set.links))) ≡ least_link l.set.id l.set.links
