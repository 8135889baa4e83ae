-- What is kept of a choice, and the choice that it opens to.
use Rattle.std.proofs.Common.{◌≡◌, ℕ, suc, ◌+◌, ◌<◌, ◌-◌, ◌⊎◌, inl, inr, List, [], ◌∷◌, Option, Some, None, map, cond, eqb, get_or, Bool, true, false, refl, sym, ap, ◌∙◌, arith, length}
use Rattle.std.specs.Prelude.{is_some, slice_get}
use Rattle.std.specs.Option.{option_map, option_and_then}
use Rattle.std.proofs.lemmas.Bool.{ne_eqb}
use Rattle.std.proofs.lemmas.List.{get_or-map, length-map}
use Rattle.std.proofs.lemmas.Option.{slice_get-map}
use Rattle.net_items.specs.declared.lists.Row.{Row}
use Rattle.route_choice.specs.declared.choices.Choice.{Choice}
use Rattle.route_choice.specs.declared.choices.Far.{Far}
use Rattle.route_choice.specs.declared.choices.Far.TheVariants.{Prohibited}
use Rattle.route_choice.specs.Routes.{Offer, is_better, same_far, best, has_via, member_at, no_choice, direct_status, lowest, direct_choice, mate_choice, choose}
use Rattle.link_sets.specs.Availability.{connected}
use Rattle.profile.specs.Status.{Source, source_row, offer, offers, mate_offer, choice_by}
use Rattle.profile.specs.Valid.{IsSmall}
use Rattle.excerpts.proofs.SourceLemmas.{row_point_is}
use Rattle.transfer_state.specs.Kept.{kept, opened}

-- ---- the members

-- the lowest class that offers a status, by its place
lowest_at : (tfr : Bool) (b : Far) (k : ℕ) (classes : List (List Offer))
    → (lowest tfr b k classes ≡ no_choice) ⊎ ((position : ℕ) × (position < length classes) × (lowest tfr b k classes ≡ record {
      class = k + position;
      members = member_at b (get_or classes position []) 0 ∷ member_at b (get_or classes position []) 1 ∷ [];
      status = direct_status tfr b (k + position);
    }))
lowest_at tfr b k [] = inl refl
lowest_at tfr b k (class ∷ classes) = go (has_via b class) refl (lowest_at tfr b (k + 1) classes)
  where
    at : ℕ → Choice
    at position = record {
      class = k + position;
      members = member_at b (get_or (class ∷ classes) position []) 0 ∷ member_at b (get_or (class ∷ classes) position []) 1 ∷ [];
      status = direct_status tfr b (k + position);
    }

    go : (t : Bool) → has_via b class ≡ t
        → (lowest tfr b (k + 1) classes ≡ no_choice) ⊎ ((position : ℕ) × (position < length classes) × (lowest tfr b (k + 1) classes ≡ record {
          class = k + 1 + position;
          members = member_at b (get_or classes position []) 0 ∷ member_at b (get_or classes position []) 1 ∷ [];
          status = direct_status tfr b (k + 1 + position);
        }))
        → (lowest tfr b k (class ∷ classes) ≡ no_choice) ⊎ ((position : ℕ) × (position < length (class ∷ classes)) × (lowest tfr b k (class ∷ classes) ≡ at position))
    go true e rest = let here : k + 0 ≡ k = omega arith in inr (0, omega arith, rw (e, here) refl)
    go false e (inl none) = inl (rw e none)
    go false e (inr found) =
        let next : k + suc found.0 ≡ k + 1 + found.0 = omega arith in
        inr (suc found.0, omega (arith, found.1), rw (e, next) found.2)

module _ (src : Source) (row : Row) (far : ℕ → Far) (small : IsSmall row) where
  -- what the row is offered
  abbrev all : List (List Offer)
  all = offers src far row

  -- a via that is used stands in its place
  via_back : (b : Far) (vias : List ℕ) (position : ℕ)
      → cond (is_some (member_at b (map (offer src far row.point) vias) position)) (slice_get vias position) None ≡ member_at b (map (offer src far row.point) vias) position
  via_back b vias position = rw (slice_get-map (offer src far row.point) vias position) (go (slice_get vias position))
    where
      test : ℕ → Option ℕ
      test z = cond (same_far (offer src far row.point z).far b) (Some z) None

      go : (o : Option ℕ) → cond (is_some (option_and_then (λ (f : Offer). cond (same_far f.far b) (Some f.via) None) (option_map (offer src far row.point) o))) o None ≡ option_and_then (λ (f : Offer). cond (same_far f.far b) (Some f.via) None) (option_map (offer src far row.point) o)
      go None = refl
      go (Some z) = over (same_far (offer src far row.point z).far b)
        where
          over : (t : Bool) → cond (is_some (cond t (Some z) None)) (Some z) None ≡ cond t (Some z) None
          over true = refl
          over false = refl

  -- so the members of a class are found again
  abbrev of_class : Far → ℕ → Choice
  of_class b position = record {
    class = 1 + position;
    members = member_at b (get_or all position []) 0 ∷ member_at b (get_or all position []) 1 ∷ [];
    status = direct_status src.tfr b (1 + position);
  }

  class_back : (b : Far) (position : ℕ) → position < length row.classes → opened src row (kept (of_class b position)) ≡ of_class b position
  class_back b position within =
      let no_mate : eqb (1 + position) 5 ≡ false = ne_eqb (1 + position) 5 (λ e. omega (arith, e, within, small.few)) in
      let vias : get_or all position [] ≡ map (offer src far row.point) (get_or row.classes position []) = get_or-map (map (offer src far row.point)) row.classes position [] [] within in
      let less : 1 + position - 1 ≡ position = omega arith in
      let first = via_back b (get_or row.classes position []) 0 in
      let second = via_back b (get_or row.classes position []) 1 in
      rw (no_mate, less, vias, first, second) refl

  direct_back : opened src row (kept (direct_choice src.tfr all)) ≡ direct_choice src.tfr all
  direct_back = go (same_far (best all) Prohibited) (lowest_at src.tfr (best all) 1 all)
    where
      go : (t : Bool) → (lowest src.tfr (best all) 1 all ≡ no_choice) ⊎ ((position : ℕ) × (position < length all) × (lowest src.tfr (best all) 1 all ≡ of_class (best all) position))
          → opened src row (kept (cond t no_choice (lowest src.tfr (best all) 1 all))) ≡ cond t no_choice (lowest src.tfr (best all) 1 all)
      go true at = refl
      go false (inl none) = rw none refl
      go false (inr found) =
          let within : found.0 < length row.classes = omega (arith, found.1, length-map row.classes (map (offer src far row.point))) in
          rw found.2 (class_back (best all) found.0 within)

  -- the mate is the point's
  mate_is : (o : Offer) → mate_offer src far row ≡ Some o → src.mate_of row.point ≡ Some o.via
  mate_is o e = go row.mate refl (src.mate_of row.point) refl
    where
      go : (t : Bool) → row.mate ≡ t → (m : Option ℕ) → src.mate_of row.point ≡ m → src.mate_of row.point ≡ Some o.via
      go false t m is = let none : None ≡ Some o = rw t at e in cc
      go true t None is = let none : None ≡ Some o = rw (t, is) at e in cc
      go true t (Some mate) is = found (source_row src mate) refl
        where
          found : (r : Option Row) → source_row src mate ≡ r → src.mate_of row.point ≡ Some o.via
          found None s = let none : None ≡ Some o = rw (t, is, s) at e in cc
          found (Some there) s = joined (connected src.sets row.point there.point) refl
            where
              joined : (b : Bool) → connected src.sets row.point there.point ≡ b → src.mate_of row.point ≡ Some o.via
              joined false j = let none : None ≡ Some o = rw (t, is, s, j) at e in cc
              joined true j =
                  let same : there.point ≡ mate = row_point_is src.rows mate there s in
                  let via : there.point ≡ o.via = cc in
                  is ∙ ap Some (sym same ∙ via)

  -- what is kept of a row's choice opens to it
  pub opened_back : opened src row (kept (choice_by src far row)) ≡ choice_by src far row
  opened_back = go (mate_offer src far row) refl
    where
      go : (o : Option Offer) → mate_offer src far row ≡ o → opened src row (kept (choose src.tfr all o)) ≡ choose src.tfr all o
      go None e = direct_back
      go (Some mate) e = over (is_better mate.far (best all))
        where
          over : (t : Bool) → opened src row (kept (cond t (mate_choice src.tfr mate.via) (direct_choice src.tfr all))) ≡ cond t (mate_choice src.tfr mate.via) (direct_choice src.tfr all)
          over true = let is = mate_is mate e in rw is refl
          over false = direct_back

  -- the class is at most five
  pub class_small : (choice_by src far row).class < 16
  class_small = go (mate_offer src far row)
    where
      direct : (t : Bool) → (lowest src.tfr (best all) 1 all ≡ no_choice) ⊎ ((position : ℕ) × (position < length all) × (lowest src.tfr (best all) 1 all ≡ of_class (best all) position)) → (cond t no_choice (lowest src.tfr (best all) 1 all)).class < 16
      direct true at = omega arith
      direct false (inl none) = rw none (omega arith)
      direct false (inr found) = rw found.2 (omega (arith, found.1, length-map row.classes (map (offer src far row.point)), small.few))

      go : (o : Option Offer) → (choose src.tfr all o).class < 16
      go None = direct (same_far (best all) Prohibited) (lowest_at src.tfr (best all) 1 all)
      go (Some mate) = over (is_better mate.far (best all))
        where
          over : (t : Bool) → (cond t (mate_choice src.tfr mate.via) (direct_choice src.tfr all)).class < 16
          over true = omega arith
          over false = direct (same_far (best all) Prohibited) (lowest_at src.tfr (best all) 1 all)
