-- A status isn't prohibited exactly if a walk leads to the destination.
use Rattle.std.proofs.Common.{◌≡◌, ◌≢◌, ℕ, zero, suc, ◌<◌, ◌≤◌, List, [], ◌∷◌, Option, Some, None, All, map, eqb, ltb, Bool, true, false, refl, sym, ap, ◌∙◌, arith, inl, inr, ◌⊎◌, subst}
use Rattle.std.specs.List.{list_any}
use Rattle.std.specs.Option.{option_and_then}
use Rattle.std.proofs.lemmas.List.Elements.{All-head, All-tail}
use Rattle.std.proofs.lemmas.Option.{same_Some}
use Rattle.std.proofs.lemmas.Bool.{eqb-true, eq-eqb, or_cases, or_left, or_right, ltb-false}
use Rattle.route_choice.specs.declared.choices.Far.{Far}
use Rattle.route_choice.specs.declared.choices.Far.TheVariants.{Allowed, Restricted, Prohibited}
use Rattle.net_items.specs.declared.lists.Row.{Row}
use Rattle.route_choice.specs.declared.choices.Choice.{Choice}
use Rattle.link_sets.specs.Availability.{connected}
use Rattle.route_choice.specs.Routes.{Offer, goodness, best_in, best, direct, mate_choice, choose}
use Rattle.profile.specs.Status.{Source, source_row, source_rank, offer, offers, mate_row, over_mate, mate_offer, choice, status}
use Rattle.profile.specs.Valid.{IsVia, IsValidRow, IsValidSource}
use Rattle.profile.specs.Walk.{Walk, arrive, by_via, by_mate}
use Rattle.profile.proofs.UnfoldingLemmas.{row_valid, rank_is, via_lower, mate_row_is, status_is}
use Rattle.profile.proofs.ChoiceLemmas.{direct_cases, direct_reached, choose_cases, better_of_cases}
use Rattle.route_choice.proofs.OfferLemmas.{goodness-better_of}
use Rattle.profile.proofs.SettledLemmas.{status_of_dest, status_of_row, mate_offer_is}

-- the best is at least what each via offers
pub best_in_above : (class : List ℕ) (F : ℕ → Offer) (z : ℕ) → list_any (λ v. eqb v z) class ≡ true → goodness (F z).far ≤ goodness (best_in (map F class))
best_in_above [] F z h = cc
best_in_above (v ∷ vs) F z h =
    let max_is = goodness-better_of (F v).far (best_in (map F vs)) in
    elim (or_cases (eqb v z) (list_any (λ v. eqb v z) vs) h) [
      | inl e ↦ let same : goodness (F z).far ≡ goodness (F v).far = ap (λ q. goodness (F q).far) (sym (eqb-true v z e)) in omega (arith, max_is, same)
      | inr r ↦ omega (arith, max_is, best_in_above vs F z r)
    ]

pub best_above : (classes : List (List ℕ)) (F : ℕ → Offer) (z : ℕ) → list_any (λ vias. list_any (λ v. eqb v z) vias) classes ≡ true → goodness (F z).far ≤ goodness (best (map (map F) classes))
best_above [] F z h = cc
best_above (c ∷ cs) F z h =
    let max_is = goodness-better_of (best_in (map F c)) (best (map (map F) cs)) in
    elim (or_cases (list_any (λ v. eqb v z) c) (list_any (λ vias. list_any (λ v. eqb v z) vias) cs) h) [
      | inl e ↦ omega (arith, max_is, best_in_above c F z e)
      | inr r ↦ omega (arith, max_is, best_above cs F z r)
    ]

-- a best above prohibited is offered by a via, of which all that holds of the vias holds
pub best_in_from : (P : ℕ → Type 0) (class : List ℕ) (F : ℕ → Offer) → All P class → 0 < goodness (best_in (map F class)) → (z : ℕ) × P z × (list_any (λ v. eqb v z) class ≡ true) × (0 < goodness (F z).far)
best_in_from P [] F each h = absurd (omega arith)
best_in_from P (v ∷ vs) F each h =
    elim (better_of_cases (F v).far (best_in (map F vs))) [
      | inl e ↦ (v, All-head P v vs each, or_left (eqb v v) (list_any (λ w. eqb w v) vs) (eq-eqb v v refl), omega (arith, h, ap goodness e))
      | inr e ↦
          let r = best_in_from P vs F (All-tail P v vs each) (omega (arith, h, ap goodness e)) in
          (r.0, r.1, or_right (eqb v r.0) (list_any (λ w. eqb w r.0) vs) r.2, r.3)
    ]

pub best_from : (P : ℕ → Type 0) (classes : List (List ℕ)) (F : ℕ → Offer) → All (All P) classes → 0 < goodness (best (map (map F) classes))
    → (z : ℕ) × P z × (list_any (λ vias. list_any (λ v. eqb v z) vias) classes ≡ true) × (0 < goodness (F z).far)
best_from P [] F each h = absurd (omega arith)
best_from P (c ∷ cs) F each h =
    elim (better_of_cases (best_in (map F c)) (best (map (map F) cs))) [
      | inl e ↦
          let r = best_in_from P c F (All-head (All P) c cs each) (omega (arith, h, ap goodness e)) in
          (r.0, r.1, or_left (list_any (λ v. eqb v r.0) c) (list_any (λ vias. list_any (λ v. eqb v r.0) vias) cs) r.2, r.3)
      | inr e ↦
          let r = best_from P cs F (All-tail (All P) c cs each) (omega (arith, h, ap goodness e)) in
          (r.0, r.1, or_right (list_any (λ v. eqb v r.0) c) (list_any (λ vias. list_any (λ v. eqb v r.0) vias) cs) r.2, r.3)
    ]

pub mate_choice_reached : (tfr : Bool) (z : ℕ) → 0 < goodness (mate_choice tfr z).status
mate_choice_reached true z = omega arith
mate_choice_reached false z = omega arith

-- a choice is above prohibited where the best or the mate is
pub choose_reached : (tfr : Bool) (classes : List (List Offer)) (mate : Option Offer) → 0 < goodness (best classes) → 0 < goodness (choose tfr classes mate).status
choose_reached tfr classes mate above =
    elim (choose_cases tfr classes mate) [
      | inl w ↦ subst (λ (c : Choice). 0 < goodness c.status) (sym w.3) (mate_choice_reached tfr w.0.via)
      | inr e ↦ subst (λ (c : Choice). 0 < goodness c.status) (sym e) (direct_reached tfr classes above)
    ]

pub choose_mate_reached : (tfr : Bool) (classes : List (List Offer)) (m : Offer) → 0 < goodness m.far → 0 < goodness (choose tfr classes (Some m)).status
choose_mate_reached tfr classes m above =
    elim (choose_cases tfr classes (Some m)) [
      | inl w ↦ subst (λ (c : Choice). 0 < goodness c.status) (sym w.3) (mate_choice_reached tfr w.0.via)
      | inr e ↦ go (ltb (goodness (best classes)) (goodness m.far)) refl
    ]
  where
    go : (b : Bool) → ltb (goodness (best classes)) (goodness m.far) ≡ b → 0 < goodness (choose tfr classes (Some m)).status
    go true t = rw t (mate_choice_reached tfr m.via)
    go false f = let le : goodness m.far ≤ goodness (best classes) = ltb-false (goodness (best classes)) (goodness m.far) f in choose_reached tfr classes (Some m) (omega arith)

-- the direct status is above prohibited only if the best is
pub direct_only : (tfr : Bool) (classes : List (List Offer)) → 0 < goodness (direct tfr classes) → 0 < goodness (best classes)
direct_only tfr classes above =
    elim (direct_cases tfr classes) [
      | inl h ↦ let e : goodness (direct tfr classes) ≡ 0 = ap (λ (c : Choice). goodness c.status) h.1 in absurd (omega (arith, e, above))
      | inr h ↦ h.0
    ]

module _ (src : Source) (valid : IsValidSource src) where
  -- what is offered above prohibited is so over an available set
  pub offer_from : (y z : ℕ) → 0 < goodness (offer src (status src) y z).far → (connected src.sets y z ≡ true) × (0 < goodness (status src z))
  offer_from y z h = go (connected src.sets y z) refl
    where
      go : (b : Bool) → connected src.sets y z ≡ b → (connected src.sets y z ≡ true) × (0 < goodness (status src z))
      go true e = (e, rw e at h)
      go false e = let none : 0 < goodness Prohibited = rw e at h in absurd (omega (arith, none))

  pub offer_joined : (y z : ℕ) → connected src.sets y z ≡ true → 0 < goodness (status src z) → 0 < goodness (offer src (status src) y z).far
  offer_joined y z e h = rw e h

  -- the mate that offers is joined
  pub mate_offer_joined : (row : Row) (g : Row → Far) (m : Offer) → IsValidRow src row → option_and_then (λ mate. over_mate src row mate (g mate)) (mate_row src row) ≡ Some m → connected src.sets row.point m.via ≡ true
  mate_offer_joined row g m ok e =
      let is = mate_offer_is src valid row g m ok e in
      let there : mate_row src row ≡ Some is.0.mate = mate_row_is src valid row is.3 is.0 in
      ap (connected src.sets row.point) is.1 ∙ go is.0.mate (connected src.sets row.point is.0.mate.point) refl (rw there at e)
    where
      go : (mate : Row) (b : Bool) → connected src.sets row.point mate.point ≡ b → over_mate src row mate (g mate) ≡ Some m → connected src.sets row.point mate.point ≡ true
      go mate true t o = t
      go mate false t o = let none : None ≡ Some m = rw t at o in cc

  -- a best above prohibited starts a walk, where the vias have walks
  pub walk_from_best : (row : Row) (may : Bool) (y : ℕ) → source_row src y ≡ Some row → IsValidRow src row → ((z : ℕ) → source_rank src z < row.rank → 0 < goodness (status src z) → Walk src true z)
      → 0 < goodness (best (offers src (status src) row)) → Walk src may y
  walk_from_best row may y planned ok vias above =
      let r = best_from (IsVia src row) row.classes (offer src (status src) row.point) ok.vias above in
      let o = offer_from row.point r.0 r.3 in
      by_via row planned r.2 o.0 (vias r.0 (via_lower src valid row r.0 ok r.1) o.1)

  -- a status above prohibited has a walk, rank by rank
  pub walk_below : (n y : ℕ) → source_rank src y < n → 0 < goodness (status src y) → Walk src true y
  walk_below zero y low above = absurd (omega arith)
  walk_below (suc n) y low above = go (eqb y src.dest) refl (source_row src y) refl (λ z lower up. walk_below n z (omega arith) up)
    where
      go : (b : Bool) → eqb y src.dest ≡ b → (o : Option Row) → source_row src y ≡ o
          → ((z : ℕ) → source_rank src z < source_rank src y → 0 < goodness (status src z) → Walk src true z) → Walk src true y
      go true t o e vias = arrive (eqb-true y src.dest t)
      go false t None e vias =
          let none : status src y ≡ Prohibited = status_is src valid y ∙ rw (t, e) refl in absurd (omega (arith, above, ap goodness none))
      go false t (Some row) e vias =
          let r = row_valid src valid y row e in
          let rank = rank_is src valid y row e in
          let chosen : 0 < goodness (choice src row).status = subst (λ (f : Far). 0 < goodness f) (status_of_row src valid y row e) above in
          let lower : (z : ℕ) → source_rank src z < row.rank → 0 < goodness (status src z) → Walk src true z = λ z l up. vias z (omega (arith, l, rank)) up in
          elim (choose_cases src.tfr (offers src (status src) row) (mate_offer src (status src) row)) [
            | inl w ↦
                let g : Row → Far = λ mate. direct src.tfr (offers src (status src) mate) in
                let is = mate_offer_is src valid row g w.0 r.1 w.1 in
                let okm = (row_valid src valid is.0.mate.point is.0.mate is.0.planned).1 in
                let up : 0 < goodness (g is.0.mate) = omega (arith, w.2, ap goodness is.2) in
                by_mate row is.0.mate e is.3 is.0.paired is.0.planned
                (subst (λ z. connected src.sets row.point z ≡ true) is.1 (mate_offer_joined row g w.0 r.1 w.1))
                (walk_from_best is.0.mate false is.0.mate.point is.0.planned okm (λ z l up. lower z (omega (arith, l, is.0.same_rank)) up)
                (direct_only src.tfr (offers src (status src) is.0.mate) up))
            | inr d ↦
                let up : 0 < goodness (direct src.tfr (offers src (status src) row)) = subst (λ (c : Choice). 0 < goodness c.status) d chosen in
                walk_from_best row true y e r.1 lower (direct_only src.tfr (offers src (status src) row) up)
          ]

  -- what a walk from a point shows of it; without the mate at first, its row's best too
  pub record Leads (may : Bool) (y : ℕ) : Type 0 where
    pub up : 0 < goodness (status src y)
    pub on : (y ≡ src.dest) ⊎ ((row : Row) × (source_row src y ≡ Some row) × ((may ≡ true) ⊎ (0 < goodness (best (offers src (status src) row)))))

  pub walk_leads : {may : Bool} {y : ℕ} → Walk src may y → Leads may y
  walk_leads (arrive e) = record { up = let is : goodness (status src src.dest) ≡ 2 = ap goodness (status_of_dest src valid) in omega (arith, is, ap (λ z. goodness (status src z)) e); on = inl e }
  walk_leads {may} {y} (by_via {z = z} row planned via joined rest) =
      let r = row_valid src valid y row planned in
      let there : 0 < goodness (offer src (status src) row.point z).far = offer_joined row.point z joined (walk_leads rest).up in
      let above : 0 < goodness (best (offers src (status src) row)) = omega (arith, there, best_above row.classes (offer src (status src) row.point) z via) in
      record {
        up = subst (λ (f : Far). 0 < goodness f) (sym (status_of_row src valid y row planned)) (choose_reached src.tfr (offers src (status src) row) (mate_offer src (status src) row) above);
        on = inr (row, planned, inr above);
      }
  walk_leads {y = y} (by_mate row mate planned flag paired mate_planned joined rest) =
      let m = row_valid src valid mate.point mate mate_planned in
      let on : 0 < goodness (best (offers src (status src) mate)) =
      elim (walk_leads rest).on [
        | inl e ↦ absurd (m.1.apart e)
        | inr w ↦ elim w.2 [
          | inl f ↦ cc
          | inr b ↦ subst (λ (q : Row). 0 < goodness (best (offers src (status src) q))) (same_Some w.0 mate (sym w.1 ∙ mate_planned)) b
        ]
      ] in
      let offers_it : mate_offer src (status src) row ≡ Some (record { via = mate.point; far = direct src.tfr (offers src (status src) mate) }) = rw (flag, paired, mate_planned, joined) refl in
      let up : 0 < goodness (choice src row).status =
      subst (λ (o : Option Offer). 0 < goodness (choose src.tfr (offers src (status src) row) o).status) (sym offers_it)
      (choose_mate_reached src.tfr (offers src (status src) row) (record { via = mate.point; far = direct src.tfr (offers src (status src) mate) }) (direct_reached src.tfr (offers src (status src) mate) on)) in
      record {
        up = subst (λ (f : Far). 0 < goodness f) (sym (status_of_row src valid y row planned)) up;
        on = inr (row, planned, inl refl);
      }

  -- THE WALK LAW
  pub reached_walk : (y : ℕ) → status src y ≢ Prohibited → Walk src true y
  reached_walk y ne = walk_below (suc (source_rank src y)) y (omega arith) (above (status src y) ne)
    where
      above : (f : Far) → f ≢ Prohibited → 0 < goodness f
      above Allowed ne = omega arith
      above Restricted ne = omega arith
      above Prohibited ne = absurd (ne refl)

  pub walk_reached : (y : ℕ) → Walk src true y → status src y ≢ Prohibited
  walk_reached y w e = let up = (walk_leads w).up in omega (arith, up, ap goodness e)
