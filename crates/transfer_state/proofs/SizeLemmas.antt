-- A class with a via in its second place has two.
use Rattle.std.proofs.Common.{subst, ◌≡◌, ℕ, suc, ◌+◌, ◌<◌, ◌≤◌, List, [], ◌∷◌, Option, Some, None, map, cond, get_or, Bool, true, false, refl, sym, ap, ◌∙◌, arith, length}
use Rattle.std.specs.Prelude.{is_some}
use Rattle.std.proofs.lemmas.Bool.{false≢true}
use Rattle.std.proofs.lemmas.List.{get_or-map, length-map}
use Rattle.net_items.specs.declared.lists.Row.{Row}
use Rattle.route_choice.specs.declared.choices.Choice.{Choice}
use Rattle.route_choice.specs.declared.choices.Far.{Far}
use Rattle.route_choice.specs.declared.choices.Far.TheVariants.{Prohibited}
use Rattle.route_choice.specs.Routes.{Offer, is_better, same_far, best, has_via, member_at, no_choice, direct_status, lowest, direct_choice, mate_choice, choose}
use Rattle.profile.specs.Status.{Source, offer, offers, mate_offer, choice, status}
use Rattle.profile.specs.Valid.{IsSmall}
use Rattle.profile.specs.Whole.{size_of, member}
use Rattle.profile.proofs.HopLemmas.{size_is}
use Rattle.excerpts.specs.Excerpt.{ExcerptValue, source_of}
use Rattle.transfer_state.specs.Routing.{IsFoundRow}

two_of : (b : Far) (class : List Offer) → length class ≤ 2 → is_some (member_at b class 1) ≡ true → length class ≡ 2
two_of b [] few second = absurd (false≢true second)
two_of b (o ∷ []) few second = absurd (false≢true second)
two_of b (o ∷ p ∷ []) few second = refl
two_of b (o ∷ p ∷ q ∷ more) few second = absurd (omega (arith, few))

-- the lowest class that offers a status, if it has a second member
two_in : (tfr : Bool) (b : Far) (k : ℕ) (classes : List (List Offer)) → ((position : ℕ) → position < length classes → length (get_or classes position []) ≤ 2)
    → is_some (member (lowest tfr b k classes) 1) ≡ true
    → (position : ℕ) × (position < length classes) × ((lowest tfr b k classes).class ≡ k + position) × (length (get_or classes position []) ≡ 2)
two_in tfr b k [] small second = absurd (false≢true second)
two_in tfr b k (class ∷ classes) small second =
    go (has_via b class) (λ some. two_in tfr b (k + 1) classes (λ position low. small (suc position) (omega (arith, low))) some) second
  where
    rest : Choice
    rest = lowest tfr b (k + 1) classes

    first : Choice
    first = record { class = k; members = member_at b class 0 ∷ member_at b class 1 ∷ []; status = direct_status tfr b k }

    go : (t : Bool)
        → (is_some (member rest 1) ≡ true → (position : ℕ) × (position < length classes) × (rest.class ≡ k + 1 + position) × (length (get_or classes position []) ≡ 2))
        → is_some (member (cond t first rest) 1) ≡ true
        → (position : ℕ) × (position < length (class ∷ classes)) × ((cond t first rest).class ≡ k + position) × (length (get_or (class ∷ classes) position []) ≡ 2)
    go true later some = (0, omega arith, omega arith, two_of b class (small 0 (omega arith)) some)
    go false later some =
        let deeper = later some in
        (suc deeper.0, omega (arith, deeper.1), omega (arith, deeper.2), deeper.3)

module _ (src : Source) (row : Row) (is_small : IsSmall row) where
  each_small : (position : ℕ) → position < length (offers src (status src) row) → length (get_or (offers src (status src) row) position []) ≤ 2
  each_small position low =
      let count : length (offers src (status src) row) ≡ length row.classes = length-map row.classes (map (offer src (status src) row.point)) in
      let within : position < length row.classes = omega (arith, low, count) in
      let vias : List ℕ = get_or row.classes position [] in
      let size : length (get_or (offers src (status src) row) position []) ≡ length vias
      = ap (length {A = Offer}) (get_or-map (map (offer src (status src) row.point)) row.classes position [] [] within) ∙ length-map vias (offer src (status src) row.point) in
      omega (arith, size, is_small.small position [] within)

  two_direct : is_some (member (direct_choice src.tfr (offers src (status src) row)) 1) ≡ true → size_of row (direct_choice src.tfr (offers src (status src) row)).class ≡ 2
  two_direct second = go (same_far (best all) Prohibited) second
    where
      all : List (List Offer)
      all = offers src (status src) row

      go : (t : Bool) → is_some (member (cond t no_choice (lowest src.tfr (best all) 1 all)) 1) ≡ true → size_of row (cond t no_choice (lowest src.tfr (best all) 1 all)).class ≡ 2
      go true some = absurd (false≢true some)
      go false some =
          let found = two_in src.tfr (best all) 1 all each_small some in
          let position : ℕ = found.0 in
          let count : length all ≡ length row.classes = length-map row.classes (map (offer src (status src) row.point)) in
          let within : position < length row.classes = omega (arith, found.1, count) in
          let few : position < 4 = omega (arith, within, is_small.few) in
          let vias : List ℕ = get_or row.classes position [] in
          let size : length (get_or all position []) ≡ length vias
          = ap (length {A = Offer}) (get_or-map (map (offer src (status src) row.point)) row.classes position [] [] within) ∙ length-map vias (offer src (status src) row.point) in
          ap (size_of row) found.2 ∙ size_is row position few ∙ sym size ∙ found.3

  two_chosen : (mate : Option Offer) → is_some (member (choose src.tfr (offers src (status src) row) mate) 1) ≡ true → size_of row (choose src.tfr (offers src (status src) row) mate).class ≡ 2
  two_chosen None second = two_direct second
  two_chosen (Some mate) second = go (is_better mate.far (best (offers src (status src) row))) second
    where
      go : (t : Bool) → is_some (member (cond t (mate_choice src.tfr mate.via) (direct_choice src.tfr (offers src (status src) row))) 1) ≡ true
          → size_of row (cond t (mate_choice src.tfr mate.via) (direct_choice src.tfr (offers src (status src) row))).class ≡ 2
      go true some = absurd (false≢true some)
      go false some = two_direct some

  -- the class that a row's point uses, if it has a second member
  two_used : is_some (member (choice src row) 1) ≡ true → size_of row (choice src row).class ≡ 2
  two_used second = two_chosen (mate_offer src (status src) row) second

-- the class in use at a row that is found, if it has a second member
pub found_two : (x : ExcerptValue) (y : ℕ) (row : Row) (c : Choice) → IsFoundRow x y row c → is_some (member c 1) ≡ true → size_of row c.class ≡ 2
found_two x y row c found = subst (λ (used : Choice). is_some (member used 1) ≡ true → size_of row used.class ≡ 2) (sym found.chosen) (two_used (source_of x) row found.small)
