-- The next point over the part of the index that is left.
use Rattle.std.proofs.Common.{◌≡◌, ◌≢◌, ℕ, zero, suc, ◌+◌, ◌-◌, ◌*◌, ◌<◌, ◌≤◌, Bool, true, false, ltb, Option, Some, None, List, [], ◌∷◌, length, get_or, drop, refl, ap, sym, ◌∙◌, subst, arith, ⊎_elim}
use Rattle.std.specs.List.{AllByRecursion}
use Rattle.std.proofs.lemmas.List.{drop_all, drop_more}
use Rattle.std.proofs.lemmas.List.Elements.{All-from_recursion}
use Rattle.std.specs.Option.{option_map_or}
use Rattle.std.proofs.lemmas.Bool.{cases_eq, eq-eqb, ne_eqb, ltb-true, ltb-false}
use Rattle.net_items.specs.declared.items.LinkSet.{LinkSet}
use Rattle.net_items.specs.Keyed.{IsRising, at_key}
use Rattle.net_items.proofs.KeyedLemmas.{All-then}
use Rattle.net_sets.specs.Joints.{joint_of}
use Rattle.link_sets.specs.Neighbours.{next_from, code_count}
use Rattle.link_sets.proofs.NeighbourLemmas.{count_is, find_least, find_none_in}
use Rattle.excerpts.specs.declared.index.Joint.{Joint}
use Rattle.excerpts.specs.Index.{is_up, leads_up}

-- joints that rise, without the first of them
pub IsRising-drop : (i : ℕ) (js : List Joint) → IsRising (λ (j : Joint). j.pair) js → IsRising (λ (j : Joint). j.pair) (drop i js)
IsRising-drop zero js up = up
IsRising-drop (suc i) [] up = tt
IsRising-drop (suc i) (j ∷ js) up = IsRising-drop i js up.1

-- pairs that rise don't fall
pub never_fall : (js : List Joint) → IsRising (λ (j : Joint). j.pair) js → (i k : ℕ) (d : Joint) → i ≤ k → k < length js → (get_or js i d).pair ≤ (get_or js k d).pair
never_fall [] up i k d le within = absurd (omega arith)
never_fall (j ∷ js) up zero zero d le within = omega arith
never_fall (j ∷ js) up zero (suc k) d le within =
    let above : j.pair < (get_or js k d).pair = All-from_recursion (λ (k : Joint). j.pair < k.pair) js up.0 k d (omega arith) in
    omega arith
never_fall (j ∷ js) up (suc i) zero d le within = absurd (omega arith)
never_fall (j ∷ js) up (suc i) (suc k) d le within = never_fall js up.1 i k d (omega arith) (omega arith)

-- greater pairs don't have a smaller one
none_above : (q : ℕ) (js : List Joint) → AllByRecursion (λ (j : Joint). q < j.pair) js → at_key (λ (j : Joint). j.pair) q js ≡ None
none_above q [] all = refl
none_above q (j ∷ js) all =
    let above : q < j.pair = all.0 in
    rw (ne_eqb j.pair q (λ e. omega arith)) (none_above q js all.1)

-- what is found after pairs that are all smaller
pub found_after : (i : ℕ) (js : List Joint) (q : ℕ) → i ≤ length js → ((k : ℕ) (d : Joint) → k < i → (get_or js k d).pair < q) → at_key (λ (j : Joint). j.pair) q (drop i js) ≡ at_key (λ (j : Joint). j.pair) q js
found_after zero js q within less = refl
found_after (suc i) [] q within less = refl
found_after (suc i) (j ∷ js) q within less =
    let below : j.pair < q = less 0 j (omega arith) in
    rw (ne_eqb j.pair q (λ e. omega arith)) (found_after i js q (omega arith) (λ k d lt. less (suc k) d (omega arith)))

-- a pair isn't there if all pairs before a place are smaller, and the one in it, if there is one, is greater
pub passed_over : (js : List Joint) (q i : ℕ) (d : Joint) → IsRising (λ (j : Joint). j.pair) js → i ≤ length js → ((k : ℕ) (d : Joint) → k < i → (get_or js k d).pair < q) → (i < length js → q < (get_or js i d).pair) → at_key (λ (j : Joint). j.pair) q js ≡ None
passed_over [] q i d up within less more = refl
passed_over (j ∷ js) q zero d up within less more =
    let above : q < j.pair = more (omega arith) in
    none_above q (j ∷ js) (above, All-then (λ (k : Joint). k.pair) (λ (k : Joint). j.pair < k.pair) (λ (k : Joint). q < k.pair) (λ k h. omega (arith, h, above)) js up.0)
passed_over (j ∷ js) q (suc i) d up within less more =
    let below : j.pair < q = less 0 j (omega arith) in
    rw (ne_eqb j.pair q (λ e. omega arith)) (passed_over js q i d up.1 (omega arith) (λ k e lt. less (suc k) e (omega arith)) (λ lt. more (omega arith)))

-- the joints from a place on tell which points from a code on are up
pub record IsLeft (sets : List LinkSet) (js : List Joint) (y from i : ℕ) : Type 0 where
  pub rise : IsRising (λ (j : Joint). j.pair) (drop i js)
  pub above : (k : ℕ) (d : Joint) → i ≤ k → k < length js → joint_of y from ≤ (get_or js k d).pair
  pub rest : (w : ℕ) → from ≤ w → is_up sets (drop i js) y w ≡ is_up sets js y w

-- the smaller pairs tell nothing of those points
pub left_first : (sets : List LinkSet) (js : List Joint) (y from i : ℕ) → IsRising (λ (j : Joint). j.pair) js → i ≤ length js → ((k : ℕ) (d : Joint) → k < i → (get_or js k d).pair < joint_of y from)
    → ((k : ℕ) (d : Joint) → i ≤ k → k < length js → joint_of y from ≤ (get_or js k d).pair) → IsLeft sets js y from i
left_first sets js y from i up within less above = record {
  rise = IsRising-drop i js up;
  above = above;
  rest = λ w late.
      ap (λ (o : Option Joint). option_map_or (leads_up sets) o false)
      (found_after i js (joint_of y w) within (λ k d lt. let l = less k d lt in omega arith));
}

-- a joint that leads to no available set may be passed over
up_past : (sets : List LinkSet) (j : Joint) (js : List Joint) (y w : ℕ) → leads_up sets j ≡ false → IsRising (λ (j : Joint). j.pair) (j ∷ js) → is_up sets js y w ≡ is_up sets (j ∷ js) y w
up_past sets j js y w down up =
    ⊎_elim
    (λ (e : j.pair ≡ joint_of y w).
    let none : at_key (λ (j : Joint). j.pair) (joint_of y w) js ≡ None = none_above (joint_of y w) js (subst (λ q. AllByRecursion (λ (k : Joint). q < k.pair) js) e up.0) in
    rw (none, eq-eqb j.pair (joint_of y w) e) (sym down))
    (λ (e : j.pair ≢ joint_of y w). rw (ne_eqb j.pair (joint_of y w) e) refl)
    (cases_eq j.pair (joint_of y w))

-- a pair below the first isn't there
up_below : (sets : List LinkSet) (j : Joint) (js : List Joint) (y w : ℕ) → joint_of y w < j.pair → IsRising (λ (j : Joint). j.pair) (j ∷ js) → is_up sets (j ∷ js) y w ≡ false
up_below sets j js y w below up =
    let none : at_key (λ (j : Joint). j.pair) (joint_of y w) (j ∷ js) ≡ None = none_above (joint_of y w) (j ∷ js) (below, All-then (λ (j : Joint). j.pair) (λ (k : Joint). j.pair < k.pair) (λ (k : Joint). joint_of y w < k.pair) (λ k h. omega arith) js up.0) in
    ap (λ (o : Option Joint). option_map_or (leads_up sets) o false) none

module _ (sets : List LinkSet) (js : List Joint) (y from i : ℕ) (d : Joint) (within : i < length js) (left : IsLeft sets js y from i) where
  here : drop i js ≡ get_or js i d ∷ drop (i + 1) js
  here = drop_more js i d within

  rising_here : IsRising (λ (j : Joint). j.pair) (get_or js i d ∷ drop (i + 1) js)
  rising_here = subst (λ (ks : List Joint). IsRising (λ (j : Joint). j.pair) ks) here left.rise

  rest_here : (w : ℕ) → from ≤ w → is_up sets (get_or js i d ∷ drop (i + 1) js) y w ≡ is_up sets js y w
  rest_here w late = ap (λ (ks : List Joint). is_up sets ks y w) (sym here) ∙ left.rest w late

  pub left_next : leads_up sets (get_or js i d) ≡ false → IsLeft sets js y from (i + 1)
  left_next down = record {
    rise = rising_here.1;
    above = λ k e low high. left.above k e (omega arith) high;
    rest = λ w late. up_past sets (get_or js i d) (drop (i + 1) js) y w down rising_here ∙ rest_here w late;
  }

  -- the first joint is of the next point
  pub next_here : (z : ℕ) → (get_or js i d).pair ≡ joint_of y z → z < 16384 → leads_up sets (get_or js i d) ≡ true → Some z ≡ next_from (is_up sets js y) from
  next_here z is small up =
      let above : joint_of y from ≤ (get_or js i d).pair = left.above i d (omega arith) within in
      let late : from ≤ z = omega arith in
      let found : is_up sets (get_or js i d ∷ drop (i + 1) js) y z ≡ true = rw (eq-eqb (get_or js i d).pair (joint_of y z) is) up in
      sym (find_least (is_up sets js y) from (code_count - from) z late (omega (arith, late, small, count_is)) (sym (rest_here z late) ∙ found)
      (λ w low lt. sym (rest_here w low) ∙ up_below sets (get_or js i d) (drop (i + 1) js) y w (omega arith) rising_here))

  -- the first joint is of a greater point than y, so no next point is left
  pub next_over : ((z : ℕ) → z < 16384 → (get_or js i d).pair ≢ joint_of y z) → None ≡ next_from (is_up sets js y) from
  next_over other =
      sym (find_none_in (is_up sets js y) from (code_count - from)
      (λ w low high. sym (rest_here w low) ∙ up_below sets (get_or js i d) (drop (i + 1) js) y w (below (get_or js i d).pair refl w (omega (arith, low, high, count_is))) rising_here))
    where
      below : (q : ℕ) → (get_or js i d).pair ≡ q → (w : ℕ) → w < 16384 → joint_of y w < (get_or js i d).pair
      below q is w small = go (ltb q (joint_of y 16384)) refl
        where
          above : joint_of y from ≤ (get_or js i d).pair
          above = left.above i d (omega arith) within

          go : (b : Bool) → ltb q (joint_of y 16384) ≡ b → joint_of y w < (get_or js i d).pair
          go true e = let near : q < joint_of y 16384 = ltb-true _ _ e in absurd (other (q - y * 16384) (omega (arith, is, above, near)) (omega (arith, is, above)))
          go false e = let far : joint_of y 16384 ≤ q = ltb-false _ _ e in omega (arith, is, small, far)

-- no joint is left
pub next_end : (sets : List LinkSet) (js : List Joint) (y from i : ℕ) → length js ≤ i → IsLeft sets js y from i → None ≡ next_from (is_up sets js y) from
next_end sets js y from i past left =
    sym (find_none_in (is_up sets js y) from (code_count - from) (λ w low high. sym (left.rest w low) ∙ ap (λ (ks : List Joint). is_up sets ks y w) (drop_all i js past)))
