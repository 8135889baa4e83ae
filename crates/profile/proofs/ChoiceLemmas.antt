-- The choice of one row, from what it is offered.
use Rattle.std.proofs.Common.{◌≡◌, ◌≢◌, ℕ, zero, suc, ◌+◌, ◌<◌, ◌≤◌, List, [], ◌∷◌, Option, Some, None, All, cond, eqb, Bool, true, false, not, ◌||◌, refl, sym, ap, ◌∙◌, arith, inl, inr, ◌⊎◌, subst, length}
use Rattle.std.specs.List.{list_any}
use Rattle.std.specs.Option.{option_map_or}
use Rattle.std.proofs.lemmas.List.Elements.{All-head, All-tail}
use Rattle.std.proofs.lemmas.Bool.{eqb-true, eqb-false, eq-eqb, cases_Bool, or_cases, or_right, or_left, le-ltb, ltb-true}
use Rattle.route_choice.specs.declared.choices.Far.{Far}
use Rattle.route_choice.specs.declared.choices.Far.TheVariants.{Allowed, Restricted, Prohibited}
use Rattle.route_choice.specs.declared.choices.Choice.{Choice}
use Rattle.route_choice.specs.Routes.{Offer, goodness, is_better, same_far, better_of, best_in, best, has_via, member_at, direct_status, no_choice, lowest, direct_choice, direct, mate_choice, choose}
use Rattle.profile.specs.Local.{is_member, reading, kind_for}
use Rattle.profile.proofs.LocalLemmas.{heard}
use Rattle.route_choice.proofs.OfferLemmas.{far_from_goodness}

pub same_far_self : (x : Far) → same_far x x ≡ true
same_far_self x = eq-eqb (goodness x) (goodness x) refl

pub better_of_cases : (x y : Far) → (better_of x y ≡ x) ⊎ (better_of x y ≡ y)
better_of_cases x y = elim (cases_Bool (is_better y x)) [ inl t ↦ inr (rw t refl) | inr f ↦ inl (rw f refl) ]

-- a best status above prohibited is offered in the class
pub best_in_offered : (class : List Offer) (b : Far) → best_in class ≡ b → b ≢ Prohibited → has_via b class ≡ true
best_in_offered [] b e ne = absurd (ne (sym e))
best_in_offered (o ∷ os) b e ne =
    elim (better_of_cases o.far (best_in os)) [
      | inl h ↦ let is : o.far ≡ b = sym h ∙ e in or_left (same_far o.far b) (has_via b os) (subst (λ (x : Far). same_far x b ≡ true) (sym is) (same_far_self b))
      | inr h ↦ or_right (same_far o.far b) (has_via b os) (best_in_offered os b (sym h ∙ e) ne)
    ]

-- a best status above prohibited is offered in some class
pub best_offered : (classes : List (List Offer)) (b : Far) → best classes ≡ b → b ≢ Prohibited → list_any (has_via b) classes ≡ true
best_offered [] b e ne = absurd (ne (sym e))
best_offered (c ∷ cs) b e ne =
    elim (better_of_cases (best_in c) (best cs)) [
      | inl h ↦ or_left (has_via b c) (list_any (has_via b) cs) (best_in_offered c b (sym h ∙ e) ne)
      | inr h ↦ or_right (has_via b c) (list_any (has_via b) cs) (best_offered cs b (sym h ∙ e) ne)
    ]

-- the lowest class with such a via has a number, and the status that goes with it
pub lowest_found : (tfr : Bool) (b : Far) (k : ℕ) (classes : List (List Offer)) → list_any (has_via b) classes ≡ true
    → (n : ℕ) × (k ≤ n) × (n < k + length classes) × ((lowest tfr b k classes).class ≡ n) × ((lowest tfr b k classes).status ≡ direct_status tfr b n)
lowest_found tfr b k [] h = cc
lowest_found tfr b k (c ∷ cs) h = go (has_via b c) refl (lowest_found tfr b (k + 1) cs)
  where
    go : (t : Bool) → has_via b c ≡ t
        → (list_any (has_via b) cs ≡ true → (n : ℕ) × (k + 1 ≤ n) × (n < k + 1 + length cs) × ((lowest tfr b (k + 1) cs).class ≡ n) × ((lowest tfr b (k + 1) cs).status ≡ direct_status tfr b n))
        → (n : ℕ) × (k ≤ n) × (n < k + length (c ∷ cs)) × ((lowest tfr b k (c ∷ cs)).class ≡ n) × ((lowest tfr b k (c ∷ cs)).status ≡ direct_status tfr b n)
    go true e rec = (k, omega arith, omega arith, rw e refl, rw e refl)
    go false e rec =
        let r = rec (rw e at h) in
        (r.0, omega (arith, r.1), omega (arith, r.2), rw e r.3, rw e r.4)

-- the status that goes with a status above prohibited is above prohibited
pub direct_status_reached : (tfr : Bool) (b : Far) (k : ℕ) → 0 < goodness b → 0 < goodness (direct_status tfr b k)
direct_status_reached tfr Allowed k h = go (not tfr || eqb k 1)
  where
    go : (t : Bool) → 0 < goodness (cond t Allowed Restricted)
    go true = omega arith
    go false = omega arith
direct_status_reached true Restricted k h = omega arith
direct_status_reached false Restricted k h = omega arith
direct_status_reached tfr Prohibited k h = h

-- a status that can stand: without the option none is restricted
pub record CanStand (tfr : Bool) (x : Far) : Type 0 where
  pub stands : tfr ≡ false → x ≢ Restricted

-- the status is no better than the one that it goes with
pub direct_status_bound : (tfr : Bool) (b : Far) (k : ℕ) → CanStand tfr b → goodness (direct_status tfr b k) ≤ goodness b
direct_status_bound tfr Allowed k ok = go (not tfr || eqb k 1)
  where
    go : (t : Bool) → goodness (cond t Allowed Restricted) ≤ 2
    go true = omega arith
    go false = omega arith
direct_status_bound true Restricted k ok = omega arith
direct_status_bound false Restricted k ok = absurd (ok.stands refl refl)
direct_status_bound tfr Prohibited k ok = omega arith

-- the direct choice: none if the best is prohibited, and else that of a class
pub direct_cases : (tfr : Bool) (classes : List (List Offer))
    → ((best classes ≡ Prohibited) × (direct_choice tfr classes ≡ no_choice))
    ⊎ ((0 < goodness (best classes)) × ((n : ℕ) × (1 ≤ n) × (n < 1 + length classes) × ((direct_choice tfr classes).class ≡ n) × (direct tfr classes ≡ direct_status tfr (best classes) n)))
direct_cases tfr classes = go (same_far (best classes) Prohibited) refl
  where
    go : (t : Bool) → same_far (best classes) Prohibited ≡ t
        → ((best classes ≡ Prohibited) × (direct_choice tfr classes ≡ no_choice))
        ⊎ ((0 < goodness (best classes)) × ((n : ℕ) × (1 ≤ n) × (n < 1 + length classes) × ((direct_choice tfr classes).class ≡ n) × (direct tfr classes ≡ direct_status tfr (best classes) n)))
    go true e = inl (far_from_goodness (best classes) Prohibited (eqb-true (goodness (best classes)) 0 e), rw e refl)
    go false e =
        let ne : best classes ≢ Prohibited = λ h. let t : same_far (best classes) Prohibited ≡ true = rw h refl in cc in
        let above : 0 < goodness (best classes) = omega (arith, eqb-false (goodness (best classes)) 0 e) in
        let r = lowest_found tfr (best classes) 1 classes (best_offered classes (best classes) refl ne) in
        let is : direct_choice tfr classes ≡ lowest tfr (best classes) 1 classes = rw e refl in
        inr (above, (r.0, r.1, r.2, ap (λ (c : Choice). c.class) is ∙ r.3, ap (λ (c : Choice). c.status) is ∙ r.4))

-- the direct status is no better than the best
pub direct_bound : (tfr : Bool) (classes : List (List Offer)) → CanStand tfr (best classes) → goodness (direct tfr classes) ≤ goodness (best classes)
direct_bound tfr classes ok =
    elim (direct_cases tfr classes) [
      | inl h ↦ let e : direct tfr classes ≡ Prohibited = ap (λ (c : Choice). c.status) h.1 in
          subst (λ (x : Far). goodness x ≤ goodness (best classes)) (sym e) (omega arith)
      | inr h ↦ subst (λ (x : Far). goodness x ≤ goodness (best classes)) (sym h.1.4) (direct_status_bound tfr (best classes) h.1.0 ok)
    ]

-- the direct status is above prohibited if the best is
pub direct_reached : (tfr : Bool) (classes : List (List Offer)) → 0 < goodness (best classes) → 0 < goodness (direct tfr classes)
direct_reached tfr classes above =
    elim (direct_cases tfr classes) [
      | inl h ↦ let e : goodness (best classes) ≡ 0 = ap goodness h.0 in absurd (omega (arith, e, above))
      | inr h ↦ subst (λ (x : Far). 0 < goodness x) (sym h.1.4) (direct_status_reached tfr (best classes) h.1.0 above)
    ]

-- the direct class is none of more than the row has
pub direct_class_bound : (tfr : Bool) (classes : List (List Offer)) → (direct_choice tfr classes).class ≤ length classes
direct_class_bound tfr classes =
    elim (direct_cases tfr classes) [
      | inl h ↦ let e : (direct_choice tfr classes).class ≡ 0 = ap (λ (c : Choice). c.class) h.1 in omega (arith, e)
      | inr h ↦ omega (arith, h.1.2, h.1.3)
    ]

-- if the mate is used, and if not
pub choose_cases : (tfr : Bool) (classes : List (List Offer)) (mate : Option Offer)
    → ((m : Offer) × (mate ≡ Some m) × (goodness (best classes) < goodness m.far) × (choose tfr classes mate ≡ mate_choice tfr m.via))
    ⊎ (choose tfr classes mate ≡ direct_choice tfr classes)
choose_cases tfr classes None = inr refl
choose_cases tfr classes (Some m) =
    elim (cases_Bool (is_better m.far (best classes))) [
      | inl t ↦ inl (m, refl, ltb-true (goodness (best classes)) (goodness m.far) t, rw t refl)
      | inr f ↦ inr (rw f refl)
    ]

-- the mate isn't used if it offers no better
pub choose_unused : (tfr : Bool) (classes : List (List Offer)) (m : Offer) → goodness m.far ≤ goodness (best classes) → choose tfr classes (Some m) ≡ direct_choice tfr classes
choose_unused tfr classes m le = let f : is_better m.far (best classes) ≡ false = le-ltb (goodness (best classes)) (goodness m.far) le in rw f refl

-- each member is one of the vias
module _ (P : ℕ → Type 0) where
  pub member_at_via : (b : Far) (class : List Offer) (position z : ℕ) → All (λ o. P o.via) class → option_map_or (λ v. eqb v z) (member_at b class position) false ≡ true → P z
  member_at_via b [] position z each h = cc
  member_at_via b (o ∷ os) zero z each h = go (same_far o.far b) h
    where
      go : (t : Bool) → option_map_or (λ v. eqb v z) (cond t (Some o.via) None) false ≡ true → P z
      go true e = subst P (eqb-true o.via z e) (All-head (λ o. P o.via) o os each)
      go false e = cc
  member_at_via b (o ∷ os) (suc position) z each h = member_at_via b os position z (All-tail (λ o. P o.via) o os each) h

  pub lowest_member : (tfr : Bool) (b : Far) (k : ℕ) (classes : List (List Offer)) (z : ℕ) → All (All (λ o. P o.via)) classes → is_member z (lowest tfr b k classes) ≡ true → P z
  lowest_member tfr b k [] z each h = cc
  lowest_member tfr b k (c ∷ cs) z each h = go (has_via b c) refl (lowest_member tfr b (k + 1) cs z (All-tail (All (λ o. P o.via)) c cs each))
    where
      go : (t : Bool) → has_via b c ≡ t → (is_member z (lowest tfr b (k + 1) cs) ≡ true → P z) → P z
      go true e rec =
          let here = All-head (All (λ o. P o.via)) c cs each in
          let m = rw e at h in
          elim (or_cases (option_map_or (λ v. eqb v z) (member_at b c 0) false) (option_map_or (λ v. eqb v z) (member_at b c 1) false || false) m) [
            | inl x ↦ member_at_via b c 0 z here x
            | inr x ↦ elim (or_cases (option_map_or (λ v. eqb v z) (member_at b c 1) false) false x) [
              | inl y ↦ member_at_via b c 1 z here y
              | inr y ↦ cc
            ]
          ]
      go false e rec = rec (rw e at h)

  pub direct_member : (tfr : Bool) (classes : List (List Offer)) (z : ℕ) → All (All (λ o. P o.via)) classes → is_member z (direct_choice tfr classes) ≡ true → P z
  direct_member tfr classes z each h = go (same_far (best classes) Prohibited) refl
    where
      go : (t : Bool) → same_far (best classes) Prohibited ≡ t → P z
      go true e = let m : is_member z no_choice ≡ true = rw e at h in cc
      go false e = lowest_member tfr (best classes) 1 classes z each (rw e at h)

pub mate_is_member : (tfr : Bool) (z : ℕ) → is_member z (mate_choice tfr z) ≡ true
mate_is_member tfr z = let e : eqb z z ≡ true = eq-eqb z z refl in rw e refl

pub mate_choice_member : (tfr : Bool) (m z : ℕ) → is_member z (mate_choice tfr m) ≡ true → m ≡ z
mate_choice_member tfr m z h =
    elim (or_cases (eqb m z) (false || false) h) [ inl e ↦ eqb-true m z e | inr e ↦ cc ]

-- what is heard is prohibited by a member, and else the status
pub heard_member : (c : Choice) (z : ℕ) → is_member z c ≡ true → heard c z ≡ Prohibited
heard_member c z e = rw e refl

pub reading_kind : (x : Far) → reading (kind_for x) ≡ x
reading_kind Allowed = refl
reading_kind Restricted = refl
reading_kind Prohibited = refl

pub heard_other : (c : Choice) (z : ℕ) → is_member z c ≡ false → heard c z ≡ c.status
heard_other c z e = rw e (reading_kind c.status)

pub heard_bound : (c : Choice) (z : ℕ) → goodness (heard c z) ≤ goodness c.status
heard_bound c z =
    elim (cases_Bool (is_member z c)) [
      | inl t ↦ subst (λ (x : Far). goodness x ≤ goodness c.status) (sym (heard_member c z t)) (omega arith)
      | inr f ↦ subst (λ (x : Far). goodness x ≤ goodness c.status) (sym (heard_other c z f)) (omega arith)
    ]

-- without the option no status is restricted
pub direct_can_stand : (tfr : Bool) (classes : List (List Offer)) → CanStand tfr (direct tfr classes)
direct_can_stand tfr classes = record { stands = λ off. go tfr off }
  where
    go : (t : Bool) → t ≡ false → direct t classes ≢ Restricted
    go true e h = cc
    go false e h =
        elim (direct_cases false classes) [
          | inl w ↦ let p : direct false classes ≡ Prohibited = ap (λ (c : Choice). c.status) w.1 in let q : Prohibited ≡ Restricted = sym p ∙ h in cc
          | inr w ↦ none (best classes) w.1.0 (sym w.1.4 ∙ h)
        ]
      where
        none : (b : Far) (n : ℕ) → direct_status false b n ≡ Restricted → ⊥
        none Allowed n e = cc
        none Restricted n e = cc
        none Prohibited n e = cc

pub choose_can_stand : (tfr : Bool) (classes : List (List Offer)) (mate : Option Offer) → CanStand tfr (choose tfr classes mate).status
choose_can_stand tfr classes mate =
    elim (choose_cases tfr classes mate) [
      | inl w ↦ subst (λ (c : Choice). CanStand tfr c.status) (sym w.3) (go tfr w.0.via)
      | inr e ↦ subst (λ (c : Choice). CanStand tfr c.status) (sym e) (direct_can_stand tfr classes)
    ]
  where
    go : (t : Bool) (z : ℕ) → CanStand t (mate_choice t z).status
    go true z = record { stands = λ off h. cc }
    go false z = record { stands = λ off h. cc }

-- the best of what can stand can stand
pub best_in_can_stand : (tfr : Bool) (class : List Offer) → All (λ o. CanStand tfr o.far) class → CanStand tfr (best_in class)
best_in_can_stand tfr [] each = record { stands = λ off h. cc }
best_in_can_stand tfr (o ∷ os) each =
    elim (better_of_cases o.far (best_in os)) [
      | inl e ↦ subst (CanStand tfr) (sym e) (All-head (λ o. CanStand tfr o.far) o os each)
      | inr e ↦ subst (CanStand tfr) (sym e) (best_in_can_stand tfr os (All-tail (λ o. CanStand tfr o.far) o os each))
    ]

pub best_can_stand : (tfr : Bool) (classes : List (List Offer)) → All (All (λ o. CanStand tfr o.far)) classes → CanStand tfr (best classes)
best_can_stand tfr [] each = record { stands = λ off h. cc }
best_can_stand tfr (c ∷ cs) each =
    elim (better_of_cases (best_in c) (best cs)) [
      | inl e ↦ subst (CanStand tfr) (sym e) (best_in_can_stand tfr c (All-head (All (λ o. CanStand tfr o.far)) c cs each))
      | inr e ↦ subst (CanStand tfr) (sym e) (best_can_stand tfr cs (All-tail (All (λ o. CanStand tfr o.far)) c cs each))
    ]
