-- Making and ending a pair keeps a network valid.
use Rattle.std.proofs.Common.{◌≡◌, ℕ, ◌<◌, ◌≢◌, Bool, true, false, not, ◌&&◌, ◌||◌, eqb, Option, Some, None, is_some, List, length, cond, refl, ap, sym, ◌∙◌, subst, arith}
use Rattle.std.specs.List.{AllByRecursion, list_any}
use Rattle.std.specs.Option.{option_map_or, option_map, option_and_then}
use Rattle.std.proofs.lemmas.Bool.{and_parts, or_parts, or_right, not-false, cond_both, eqb-true, eqb-false, eq-eqb, ne_eqb}
use Rattle.std.proofs.lemmas.Bool.Decides.{nat_tests}
use Rattle.net_items.specs.declared.items.Point.{Point}
use Rattle.net_items.specs.declared.items.LinkSet.{LinkSet}
use Rattle.net_items.specs.declared.items.Plan.{Plan}
use Rattle.net_items.specs.declared.lists.Row.{Row}
use Rattle.net_data.specs.declared.events.Event.TheVariants as on
use Rattle.net_items.specs.Keyed.{IsRising}
use Rattle.net_data.specs.Network.{Network}
use Rattle.net_items.specs.Lookups.{point_at, has_point, is_stp, kind_is_stp, mate_of, is_via}
use Rattle.plan_rows.specs.Rows.{is_mate, has_mate_row}
use Rattle.net_data.specs.Valid.{IsRightRow, IsRightPlan, IsRightSet, AreMates, IsValid}
use Rattle.plan_rows.specs.Uses.{either_uses, uses_pair, is_flagged, has_flag}
use Rattle.net_data.specs.Edits.{refusal_of, changed, with_mate, set_mate}
use Rattle.net_data.proofs.FrameLemmas.{IsRightRow-kept, IsRightPlan-kept, IsRightSet-then, All-unless, neither, flag-kept, flag-off}
use Rattle.net_data.proofs.PreservationLemmas.{when_none, not_some}
use Rattle.net_items.proofs.KeyedLemmas.{All-edit, at_key-edit, All-then, IsRising-edit, length-edit}

-- the points after a mate is changed
pub point_at-set_mate : (c : ℕ) (m : Option ℕ) (points : List Point) (z : ℕ) → point_at (set_mate c m points) z ≡ cond (eqb c z) (option_map (with_mate m) (point_at points z)) (point_at points z)
point_at-set_mate c m points z = at_key-edit (λ (p : Point). p.code) c (with_mate m) (λ p. refl) points z

is_some-with_mate : (b : Bool) (m : Option ℕ) (o : Option Point) → is_some (cond b (option_map (with_mate m) o) o) ≡ is_some o
is_some-with_mate true m None = refl
is_some-with_mate true m (Some p) = refl
is_some-with_mate false m o = refl

is_stp-with_mate : (b : Bool) (m : Option ℕ) (o : Option Point) → option_map_or (λ (p : Point). kind_is_stp p.kind) (cond b (option_map (with_mate m) o) o) false ≡ option_map_or (λ (p : Point). kind_is_stp p.kind) o false
is_stp-with_mate true m None = refl
is_stp-with_mate true m (Some p) = refl
is_stp-with_mate false m o = refl

mate-with_mate : (m : Option ℕ) (o : Option Point) → is_some o ≡ true → option_and_then (λ (p : Point). p.mate) (option_map (with_mate m) o) ≡ m
mate-with_mate m None h = absurd (cc)
mate-with_mate m (Some p) h = refl

pub has_point-set_mate : (c : ℕ) (m : Option ℕ) (points : List Point) (z : ℕ) → has_point (set_mate c m points) z ≡ has_point points z
has_point-set_mate c m points z = ap is_some (point_at-set_mate c m points z) ∙ is_some-with_mate (eqb c z) m (point_at points z)

pub is_stp-set_mate : (c : ℕ) (m : Option ℕ) (points : List Point) (z : ℕ) → is_stp (set_mate c m points) z ≡ is_stp points z
is_stp-set_mate c m points z = ap (λ o. option_map_or (λ (p : Point). kind_is_stp p.kind) o false) (point_at-set_mate c m points z) ∙ is_stp-with_mate (eqb c z) m (point_at points z)

mate_cond : (b : Bool) (m : Option ℕ) (o : Option Point) → (b ≡ true → is_some o ≡ true) → option_and_then (λ (p : Point). p.mate) (cond b (option_map (with_mate m) o) o) ≡ cond b m (option_and_then (λ (p : Point). p.mate) o)
mate_cond true m o h = mate-with_mate m o (h refl)
mate_cond false m o h = refl

pub mate_of-set_mate : (c : ℕ) (m : Option ℕ) (points : List Point) (z : ℕ) → has_point points c ≡ true → mate_of (set_mate c m points) z ≡ cond (eqb c z) m (mate_of points z)
mate_of-set_mate c m points z there =
    ap (option_and_then (λ (p : Point). p.mate)) (point_at-set_mate c m points z)
    ∙ mate_cond (eqb c z) m (point_at points z) (λ e. subst (λ n. has_point points n ≡ true) (eqb-true c z e) there)

pub IsRising-set_mate : (c : ℕ) (m : Option ℕ) (points : List Point) → IsRising (λ (p : Point). p.code) points → IsRising (λ (p : Point). p.code) (set_mate c m points)
IsRising-set_mate c m points up = IsRising-edit (λ (p : Point). p.code) c (with_mate m) (λ p. refl) points up

codes-set_mate : (c : ℕ) (m : Option ℕ) (points : List Point) → AllByRecursion (λ (p : Point). p.code < 16384) points → AllByRecursion (λ (p : Point). p.code < 16384) (set_mate c m points)
codes-set_mate c m points small = All-edit (λ (p : Point). p.code) (λ (p : Point). p.code < 16384) c (with_mate m) (λ p h. h) points small

-- other mates of the same points
module _ (net : Network) (v : IsValid net) (points' : List Point)
    (there : (c : ℕ) → has_point points' c ≡ has_point net.points c)
    (rise : IsRising (λ (p : Point). p.code) points')
    (codes : AllByRecursion (λ (p : Point). p.code < 16384) points')
    (same_length : length points' ≡ length net.points)
    (mates' : (p m : ℕ) → mate_of points' p ≡ Some m → AreMates points' p m)
    (t : Plan → Bool) (unused : list_any t net.plans ≡ false)
    (plans_stay : (p : Plan) → t p ≡ false → IsRightPlan net.points net.sets p → IsRightPlan points' net.sets p) where
  valid-mates : IsValid (record net { points = points' })
  valid-mates = record {
    ni_small = v.ni_small;
    few_points = let few = v.few_points in omega arith;
    points_rise = rise;
    codes_small = codes;
    mates = mates';
    sets_rise = v.sets_rise;
    sets_right = All-then (λ (s : LinkSet). s.id) (IsRightSet net.points) (IsRightSet points') (λ s h. IsRightSet-then net.points points' s (λ c k. there c ∙ k) h) net.sets v.sets_right;
    one_per_pair = v.one_per_pair;
    plans_rise = v.plans_rise;
    plans_right = All-unless (IsRightPlan net.points net.sets) (IsRightPlan points' net.sets) t plans_stay net.plans unused v.plans_right;
  }

-- no via of a row is the new mate, unless it is the destination
free_pair : (p q y z dest : ℕ) (via : ℕ → Bool) (o : Option ℕ)
    → (((eqb y p && not (eqb q dest)) && via q) || ((eqb y q && not (eqb p dest)) && via p)) ≡ false
    → via z ≡ true
    → (eqb z dest || not (option_map_or (λ m. eqb m z) o false)) ≡ true
    → (eqb z dest || not (option_map_or (λ m. eqb m z) (cond (eqb p y) (Some q) (cond (eqb q y) (Some p) o)) false)) ≡ true
free_pair p q y z dest via o unused is_via free = grind (arith, nat_tests, λ (e : q ≡ z). ap via e, λ (e : p ≡ z). ap via e)

-- a row of a point without a mate has no flag
no_mate-no_flag : (points : List Point) (sets : List LinkSet) (dest : ℕ) (rows : List Row) (r : Row) → mate_of points r.point ≡ None → (r.mate && not (has_mate_row points sets dest rows r)) ≡ false → r.mate ≡ false
no_mate-no_flag points sets dest rows r none h =
    let no_row : has_mate_row points sets dest rows r ≡ false = rw none (grind arith) in
    grind arith

value_there : (o : Option Point) (m : ℕ) → option_and_then (λ (p : Point). p.mate) o ≡ Some m → is_some o ≡ true
value_there None m e = absurd (cc)
value_there (Some p) m e = refl

-- a point with a mate is there
pub mate_there : (points : List Point) (c m : ℕ) → mate_of points c ≡ Some m → has_point points c ≡ true
mate_there points c m e = value_there (point_at points c) m e

-- fewer mates are on no way
free_unpair : (b c d : Bool) (z : ℕ) (o : Option ℕ) → (d || not (option_map_or (λ m. eqb m z) o false)) ≡ true → (d || not (option_map_or (λ m. eqb m z) (cond b None (cond c None o)) false)) ≡ true
free_unpair true c d z o h = or_right d true refl
free_unpair false true d z o h = or_right d true refl
free_unpair false false d z o h = h

no_flag_at : (c : ℕ) (r : Row) → is_flagged c r ≡ false → eqb c r.point ≡ true → r.mate ≡ false
no_flag_at c r off e = rw (eq-eqb r.point c (sym (eqb-true c r.point e))) at off

module _ (net : Network) (v : IsValid net) where
  -- a pair
  pub valid-Pair : (p q : ℕ) → refusal_of net (on.Pair p q) ≡ None → IsValid (changed net (on.Pair p q))
  valid-Pair p q none =
      let t1 = when_none (not (has_point net.points p && has_point net.points q)) _ _ none in
      let t2 = when_none (not (is_stp net.points p && is_stp net.points q)) _ _ t1.1 in
      let t3 = when_none (is_some (mate_of net.points p) || is_some (mate_of net.points q)) _ _ t2.1 in
      let t4 = when_none (list_any (uses_pair p q) net.plans) _ _ t3.1 in
      let t5 = when_none (eqb p q) _ _ t4.1 in
      let ends = and_parts (has_point net.points p) (has_point net.points q) (not-false _ t1.0) in
      let both_stp = and_parts (is_stp net.points p) (is_stp net.points q) (not-false _ t2.0) in
      let free = or_parts (is_some (mate_of net.points p)) _ t3.0 in
      let p_free : mate_of net.points p ≡ None = not_some _ free.0 in
      let q_free : mate_of net.points q ≡ None = not_some _ free.1 in
      let differ : p ≢ q = eqb-false p q t5.0 in
      let points1 : List Point = set_mate q (Some p) net.points in
      let points' : List Point = set_mate p (Some q) points1 in
      let there : (c : ℕ) → has_point points' c ≡ has_point net.points c = λ c. has_point-set_mate p (Some q) points1 c ∙ has_point-set_mate q (Some p) net.points c in
      let stps : (c : ℕ) → is_stp points' c ≡ is_stp net.points c = λ c. is_stp-set_mate p (Some q) points1 c ∙ is_stp-set_mate q (Some p) net.points c in
      let mates : (c : ℕ) → mate_of points' c ≡ cond (eqb p c) (Some q) (cond (eqb q c) (Some p) (mate_of net.points c)) = λ c.
      mate_of-set_mate p (Some q) points1 c (has_point-set_mate q (Some p) net.points p ∙ ends.0)
      ∙ ap (λ o. cond (eqb p c) (Some q) o) (mate_of-set_mate q (Some p) net.points c ends.1) in
      let mate_p : mate_of points' p ≡ Some q = mates p ∙ rw (eq-eqb p p refl) refl in
      let mate_q : mate_of points' q ≡ Some p = mates q ∙ rw (ne_eqb p q differ, eq-eqb q q refl) refl in
      let apart : (c m : ℕ) → mate_of net.points c ≡ Some m → (p ≢ c) × (q ≢ c) × (p ≢ m) × (q ≢ m) = λ c m e.
      let old = v.mates c m e in
      let back = old.back in (
        (λ s. let f : mate_of net.points c ≡ None = subst (λ n. mate_of net.points n ≡ None) s p_free in cc),
        (λ s. let f : mate_of net.points c ≡ None = subst (λ n. mate_of net.points n ≡ None) s q_free in cc),
        (λ s. let f : mate_of net.points m ≡ None = subst (λ n. mate_of net.points n ≡ None) s p_free in cc),
        (λ s. let f : mate_of net.points m ≡ None = subst (λ n. mate_of net.points n ≡ None) s q_free in cc),
      ) in
      let mates' : (c m : ℕ) → mate_of points' c ≡ Some m → AreMates points' c m = λ c m e.
      cond_both (eqb p c) (Some q) (cond (eqb q c) (Some p) (mate_of net.points c)) (λ o. o ≡ Some m → AreMates points' c m)
      (λ is_p k.
      let cp : p ≡ c = eqb-true p c is_p in
      let mq : q ≡ m = cc in
      subst (λ n. AreMates points' n m) cp (subst (λ n. AreMates points' p n) mq (record { differ = differ; stp = stps p ∙ both_stp.0; back = mate_q })))
      (λ not_p. cond_both (eqb q c) (Some p) (mate_of net.points c) (λ o. o ≡ Some m → AreMates points' c m)
      (λ is_q k.
      let cq : q ≡ c = eqb-true q c is_q in
      let mp : p ≡ m = cc in
      subst (λ n. AreMates points' n m) cq (subst (λ n. AreMates points' q n) mp (record { differ = λ s. differ (sym s); stp = stps q ∙ both_stp.1; back = mate_p })))
      (λ not_q k.
      let old = v.mates c m k in
      let off = apart c m k in
      record { differ = old.differ; stp = stps c ∙ old.stp; back = mates m ∙ rw (ne_eqb p m off.2, ne_eqb q m off.3) old.back }))
      (sym (mates c) ∙ e) in
      let row : (dest : ℕ) (rows : List Row) (r : Row) → either_uses p q dest r ≡ false → IsRightRow net.points net.sets dest rows r → IsRightRow points' net.sets dest rows r = λ dest rows r unused right.
      IsRightRow-kept net.points points' net.sets net.sets dest rows r
      (λ z j h. stps z ∙ h)
      (λ z m j. j)
      (λ z m h. rw (mates r.point) (free_pair p q r.point z dest (λ y. is_via r y) (mate_of net.points r.point) unused m h))
      (λ flag. cond_both (eqb p r.point) (Some q) (cond (eqb q r.point) (Some p) (mate_of net.points r.point)) (λ o. mate_of points' r.point ≡ o → (r.mate && not (has_mate_row points' net.sets dest rows r)) ≡ false)
      (λ is_p k. flag-off r.mate (has_mate_row net.points net.sets dest rows r) (has_mate_row points' net.sets dest rows r) (no_mate-no_flag net.points net.sets dest rows r (subst (λ n. mate_of net.points n ≡ None) (eqb-true p r.point is_p) p_free) flag) flag)
      (λ not_p. cond_both (eqb q r.point) (Some p) (mate_of net.points r.point) (λ o. mate_of points' r.point ≡ o → (r.mate && not (has_mate_row points' net.sets dest rows r)) ≡ false)
      (λ is_q k. flag-off r.mate (has_mate_row net.points net.sets dest rows r) (has_mate_row points' net.sets dest rows r) (no_mate-no_flag net.points net.sets dest rows r (subst (λ n. mate_of net.points n ≡ None) (eqb-true q r.point is_q) q_free) flag) flag)
      (λ not_q k. flag-kept net.points points' net.sets net.sets dest rows r (λ h. stps r.point ∙ h) k (λ m on e j. j) flag))
      (mates r.point))
      (there r.point ∙ right.is_there) right in
      valid-mates net v points' there
      (IsRising-set_mate p (Some q) points1 (IsRising-set_mate q (Some p) net.points v.points_rise))
      (codes-set_mate p (Some q) points1 (codes-set_mate q (Some p) net.points v.codes_small))
      (length-edit (λ (x : Point). x.code) p (with_mate (Some q)) points1 ∙ length-edit (λ (x : Point). x.code) q (with_mate (Some p)) net.points)
      mates' (uses_pair p q) t4.0
      (λ plan unused right. IsRightPlan-kept net.points points' net.sets net.sets plan (either_uses p q plan.dest) (there plan.dest ∙ right.is_there) unused (λ r u h. row plan.dest plan.rows r u h) right)

  -- the end of a pair
  valid-Unpair_of : (p m : ℕ) → mate_of net.points p ≡ Some m → has_point net.points p ≡ true → list_any (has_flag p) net.plans ≡ false → list_any (has_flag m) net.plans ≡ false → IsValid (record net { points = set_mate p None (set_mate m None net.points) })
  valid-Unpair_of p m is_mate p_there p_off m_off =
      let pm = v.mates p m is_mate in
      let back = pm.back in
      let m_there : has_point net.points m ≡ true = mate_there net.points m p pm.back in
      let points1 : List Point = set_mate m None net.points in
      let points' : List Point = set_mate p None points1 in
      let there : (c : ℕ) → has_point points' c ≡ has_point net.points c = λ c. has_point-set_mate p None points1 c ∙ has_point-set_mate m None net.points c in
      let stps : (c : ℕ) → is_stp points' c ≡ is_stp net.points c = λ c. is_stp-set_mate p None points1 c ∙ is_stp-set_mate m None net.points c in
      let mates : (c : ℕ) → mate_of points' c ≡ cond (eqb p c) None (cond (eqb m c) None (mate_of net.points c)) = λ c.
      mate_of-set_mate p None points1 c (has_point-set_mate m None net.points p ∙ p_there)
      ∙ ap (λ o. cond (eqb p c) None o) (mate_of-set_mate m None net.points c m_there) in
      let mates' : (c d : ℕ) → mate_of points' c ≡ Some d → AreMates points' c d = λ c d e.
      cond_both (eqb p c) None (cond (eqb m c) None (mate_of net.points c)) (λ o. o ≡ Some d → AreMates points' c d)
      (λ is_p k. absurd (cc))
      (λ not_p. cond_both (eqb m c) None (mate_of net.points c) (λ o. o ≡ Some d → AreMates points' c d)
      (λ is_m k. absurd (cc))
      (λ not_m k.
      let old = v.mates c d k in
      let old_back = old.back in
      let p_other : p ≢ d = λ s. let f : mate_of net.points d ≡ Some m = subst (λ n. mate_of net.points n ≡ Some m) s is_mate in let same : m ≡ c = cc in eqb-false m c not_m same in
      let m_other : m ≢ d = λ s. let f : mate_of net.points d ≡ Some p = subst (λ n. mate_of net.points n ≡ Some p) s back in let same : p ≡ c = cc in eqb-false p c not_p same in
      record { differ = old.differ; stp = stps c ∙ old.stp; back = mates d ∙ rw (ne_eqb p d p_other, ne_eqb m d m_other) old_back }))
      (sym (mates c) ∙ e) in
      let row : (dest : ℕ) (rows : List Row) (r : Row) → (is_flagged p r || is_flagged m r) ≡ false → IsRightRow net.points net.sets dest rows r → IsRightRow points' net.sets dest rows r = λ dest rows r unused right.
      let parts = or_parts (is_flagged p r) _ unused in
      IsRightRow-kept net.points points' net.sets net.sets dest rows r
      (λ z j h. stps z ∙ h)
      (λ z k j. j)
      (λ z k h. rw (mates r.point) (free_unpair (eqb p r.point) (eqb m r.point) (eqb z dest) z (mate_of net.points r.point) h))
      (λ flag. cond_both (eqb p r.point) None (cond (eqb m r.point) None (mate_of net.points r.point)) (λ o. mate_of points' r.point ≡ o → (r.mate && not (has_mate_row points' net.sets dest rows r)) ≡ false)
      (λ is_p k. flag-off r.mate (has_mate_row net.points net.sets dest rows r) (has_mate_row points' net.sets dest rows r) (no_flag_at p r parts.0 is_p) flag)
      (λ not_p. cond_both (eqb m r.point) None (mate_of net.points r.point) (λ o. mate_of points' r.point ≡ o → (r.mate && not (has_mate_row points' net.sets dest rows r)) ≡ false)
      (λ is_m k. flag-off r.mate (has_mate_row net.points net.sets dest rows r) (has_mate_row points' net.sets dest rows r) (no_flag_at m r parts.1 is_m) flag)
      (λ not_m k. flag-kept net.points points' net.sets net.sets dest rows r (λ h. stps r.point ∙ h) k (λ m on e j. j) flag))
      (mates r.point))
      (there r.point ∙ right.is_there) right in
      valid-mates net v points' there
      (IsRising-set_mate p None points1 (IsRising-set_mate m None net.points v.points_rise))
      (codes-set_mate p None points1 (codes-set_mate m None net.points v.codes_small))
      (length-edit (λ (x : Point). x.code) p (with_mate None) points1 ∙ length-edit (λ (x : Point). x.code) m (with_mate None) net.points)
      mates' (λ plan. has_flag p plan || has_flag m plan) (neither (has_flag p) (has_flag m) net.plans p_off m_off)
      (λ plan unused right.
      let parts = or_parts (has_flag p plan) _ unused in
      IsRightPlan-kept net.points points' net.sets net.sets plan (λ r. is_flagged p r || is_flagged m r) (there plan.dest ∙ right.is_there) (neither (is_flagged p) (is_flagged m) plan.rows parts.0 parts.1) (λ r u h. row plan.dest plan.rows r u h) right)

  -- the accepted end of a pair
  pub valid-Unpair : (p m : ℕ) → mate_of net.points p ≡ Some m → refusal_of net (on.Unpair p) ≡ None → IsValid (record net { points = set_mate p None (set_mate m None net.points) })
  valid-Unpair p m is_mate none =
      let t1 = when_none (not (has_point net.points p)) _ _ none in
      let t2 = when_none (not (is_some (mate_of net.points p))) _ _ t1.1 in
      let t3 = when_none (list_any (has_flag p) net.plans || option_map_or (λ m. list_any (has_flag m) net.plans) (mate_of net.points p) false) _ _ t2.1 in
      let off = or_parts (list_any (has_flag p) net.plans) _ t3.0 in
      valid-Unpair_of p m is_mate (not-false _ t1.0) off.0 (subst (λ o. option_map_or (λ m. list_any (has_flag m) net.plans) o false ≡ false) is_mate off.1)

-- what an accepted pair is of
pub pair_there : (net : Network) (p q : ℕ) → refusal_of net (on.Pair p q) ≡ None → has_point net.points p ≡ true
pair_there net p q none = (and_parts (has_point net.points p) (has_point net.points q) (not-false _ (when_none (not (has_point net.points p && has_point net.points q)) _ _ none).0)).0
