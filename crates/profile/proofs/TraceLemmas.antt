-- The hops of an SLS end at the destination, in at most twice the rank.
use Rattle.std.proofs.Common.{◌≡◌, ℕ, suc, ◌+◌, ◌<◌, ◌≤◌, ◌%◌, List, [], ◌∷◌, None, get_or, cond, eqb, Bool, true, false, ◌||◌, refl, ap, ◌∙◌, arith, length}
use Rattle.std.specs.Prelude.{is_some}
use Rattle.std.specs.List.{list_any}
use Rattle.route_choice.specs.declared.choices.Far.{Far}
use Rattle.route_choice.specs.declared.choices.Choice.{Choice}
use Rattle.sls_share.specs.Share.{via_of}
use Rattle.route_choice.specs.Routes.{Offer, same_far, has_via, member_at, direct_status, lowest}

-- the lowest class with a via of this status, by its place
pub record IsLowest (tfr : Bool) (b : Far) (k : ℕ) (classes : List (List Offer)) (c : Choice) : Type 0 where
  pub position : ℕ
  pub within : position < length classes
  pub offers_it : has_via b (get_or classes position []) ≡ true
  pub is : c ≡ record { class = k + position; members = member_at b (get_or classes position []) 0 ∷ member_at b (get_or classes position []) 1 ∷ []; status = direct_status tfr b (k + position) }

pub lowest_is : (tfr : Bool) (b : Far) (k : ℕ) (classes : List (List Offer)) → list_any (has_via b) classes ≡ true → IsLowest tfr b k classes (lowest tfr b k classes)
lowest_is tfr b k [] h = cc
lowest_is tfr b k (c ∷ cs) h = go (has_via b c) refl (λ r. lowest_is tfr b (k + 1) cs r)
  where
    go : (t : Bool) → has_via b c ≡ t → (list_any (has_via b) cs ≡ true → IsLowest tfr b (k + 1) cs (lowest tfr b (k + 1) cs)) → IsLowest tfr b k (c ∷ cs) (lowest tfr b k (c ∷ cs))
    go true t rec =
        let same : k ≡ k + 0 = omega arith in
        record { position = 0; within = omega arith; offers_it = t; is = rw t (ap (λ n. record { class = n; members = member_at b c 0 ∷ member_at b c 1 ∷ []; status = direct_status tfr b n }) same) }
    go false t rec =
        let r = rec (rw t at h) in
        let same : k + 1 + r.position ≡ k + suc r.position = omega arith in
        record {
          position = suc r.position;
          within = omega (arith, r.within);
          offers_it = r.offers_it;
          is = rw t (r.is ∙ ap (λ n. record { class = n; members = member_at b (get_or cs r.position []) 0 ∷ member_at b (get_or cs r.position []) 1 ∷ []; status = direct_status tfr b n }) same);
        }

-- one of a class of at most two has a member where the class offers the status, and the place of an SLS has one
pub position_filled : (b : Far) (class : List Offer) (s : ℕ) → length class ≤ 2 → has_via b class ≡ true
    → is_some (get_or (member_at b class 0 ∷ member_at b class 1 ∷ []) (via_of (length class) (is_some (member_at b class 0)) (is_some (member_at b class 1)) s) None) ≡ true
position_filled b [] s few h = cc
position_filled b (o ∷ []) s few h = go (same_far o.far b) refl
  where
    go : (t : Bool) → same_far o.far b ≡ t → is_some (member_at b (o ∷ []) 0) ≡ true
    go true t = rw t refl
    go false t = let no : (same_far o.far b || false) ≡ false = rw t refl in cc
position_filled b (o ∷ p ∷ []) s few h = go (same_far o.far b) refl (same_far p.far b) refl (eqb (s % 2) 0)
  where
    go : (t : Bool) → same_far o.far b ≡ t → (u : Bool) → same_far p.far b ≡ u → (e : Bool)
        → is_some (get_or (member_at b (o ∷ p ∷ []) 0 ∷ member_at b (o ∷ p ∷ []) 1 ∷ [])
        (cond e (cond (is_some (member_at b (o ∷ p ∷ []) 0)) 0 1) (cond (is_some (member_at b (o ∷ p ∷ []) 1)) 1 0)) None) ≡ true
    go true t true u true = simp (t, u)
    go true t true u false = simp (t, u)
    go true t false u true = simp (t, u)
    go true t false u false = simp (t, u)
    go false t true u true = simp (t, u)
    go false t true u false = simp (t, u)
    go false t false u e = let no : (same_far o.far b || (same_far p.far b || false)) ≡ false = simp (t, u) in cc
position_filled b (o ∷ p ∷ q ∷ os) s few h = absurd (omega arith)
