-- What stands in a place of a list that rises.
use Rattle.std.proofs.Common.{◌≡◌, ◌<◌, ℕ, zero, suc, List, [], ◌∷◌, Some, ap, map, get_or, length, slice_get}
use Rattle.std.proofs.lemmas.List.{get_or_default, length-map}
use Rattle.std.proofs.lemmas.Option.{same_Some, slice_get_within}
use Rattle.net_items.specs.declared.lists.Row.{Row}
use Rattle.net_items.specs.Keyed.{IsRising, IsFoundAt, at_key}
use Rattle.net_items.proofs.KeyedLemmas.{found_here}

-- a row whose code stands in a place stands there
at_code : (rows : List Row) (i k : ℕ) → slice_get (map (λ (r : Row). r.point) rows) i ≡ Some k → (d : Row) → (get_or rows i d).point ≡ k
at_code [] i k e d = cc
at_code (r ∷ rs) zero k e d = same_Some r.point k e
at_code (r ∷ rs) (suc i) k e d = at_code rs i k e d

pub found_by_code : (rows : List Row) (i k : ℕ) → IsRising (λ (r : Row). r.point) rows → slice_get (map (λ (r : Row). r.point) rows) i ≡ Some k → IsFoundAt (λ (r : Row). r.point) k rows i
found_by_code rows i k up e =
    let within : i < length rows = rw (← length-map rows (λ (r : Row). r.point)) (slice_get_within (map (λ (r : Row). r.point) rows) i k e) in
    found_here (λ (r : Row). r.point) k rows i up within (at_code rows i k e)

-- it is found by its key
pub found_in_place : {X : Type 0} (key : X → ℕ) (xs : List X) (i : ℕ) (d : X) → IsRising key xs → i < length xs → at_key key (key (get_or xs i d)) xs ≡ Some (get_or xs i d)
found_in_place key xs i d up within = (found_here key (key (get_or xs i d)) xs i up within (λ e. ap key (get_or_default xs i e d within))).finds d
