-- What a table of ranks says of rows.
use Rattle.std.proofs.Common.{◌≡◌, ◌≢◌, ℕ, ◌+◌, ◌<◌, ◌≤◌, Bool, true, false, not, ◌&&◌, ◌||◌, eqb, ltb, leb, List, [], ◌∷◌, ◌++◌, length, get_or, set, refl, sym, ◌∙◌, subst, arith, ⊎_elim}
use Rattle.std.proofs.lemmas.Bool.{cases_eq, cases_Bool, eq-eqb, ne_eqb, or_parts}
use Rattle.std.proofs.lemmas.Bool.Decides.{nat_tests}
use Rattle.std.proofs.lemmas.List.{get_or-set_same, get_or-set_other}
use Rattle.std.proofs.lemmas.List.Folds.{list_any-append}
use Rattle.net_items.specs.declared.lists.Row.{Row}
use Rattle.plan_rows.specs.Rows.{has_lower_row, has_equal_row}
use Rattle.plan_rows.specs.Ranks.{IsRanks}

-- what a further row adds
lower-push : (rows : List Row) (r : Row) (z rank : ℕ) → has_lower_row (rows ++ r ∷ []) z rank ≡ (has_lower_row rows z rank || (eqb r.point z && ltb r.rank rank))
lower-push rows r z rank =
    list_any-append (λ (other : Row). eqb other.point z && ltb other.rank rank) rows (r ∷ [])
    ∙ grind (arith, nat_tests)

-- the least of what was noted and one more rank
noted_less : (old new rank k : ℕ) (b : Bool) → (not (eqb old 0) && leb old k) ≡ b → (old ≡ 0 → new ≡ rank + 1) → (old ≢ 0 → rank + 1 < old → new ≡ rank + 1) → (old ≢ 0 → old ≤ rank + 1 → new ≡ old)
    → (not (eqb new 0) && leb new k) ≡ (b || ltb rank k)
noted_less old new rank k b is none less kept =
    ⊎_elim
    (λ (e : old ≡ 0). let now = none e in grind (arith, nat_tests))
    (λ (e : old ≢ 0).
    ⊎_elim
    (λ (t : ltb (rank + 1) old ≡ true). let below : rank + 1 < old = grind (arith, nat_tests) in let now = less e below in grind (arith, nat_tests))
    (λ (t : ltb (rank + 1) old ≡ false). let above : old ≤ rank + 1 = grind (arith, nat_tests) in let now = kept e above in grind (arith, nat_tests))
    (cases_Bool (ltb (rank + 1) old)))
    (cases_eq old 0)

-- a row's rank is noted at its place
pub IsRanks-note : (ranks : List ℕ) (rows : List Row) (r : Row) (at new : ℕ) → at ≡ r.point → length ranks ≡ 16384 → at < 16384
    → (get_or ranks at 0 ≡ 0 → new ≡ r.rank + 1) → (get_or ranks at 0 ≢ 0 → r.rank + 1 < get_or ranks at 0 → new ≡ r.rank + 1) → (get_or ranks at 0 ≢ 0 → get_or ranks at 0 ≤ r.rank + 1 → new ≡ get_or ranks at 0)
    → IsRanks ranks rows → IsRanks (set ranks at new) (rows ++ r ∷ [])
IsRanks-note ranks rows r at new is long small none less kept noted = λ z rank within.
    let push = lower-push rows r z rank in
    ⊎_elim
    (λ (same : z ≡ at).
    let here : get_or (set ranks at new) z 0 ≡ new = subst (λ n. get_or (set ranks at new) n 0 ≡ new) (sym same) (get_or-set_same ranks at new 0 (omega arith)) in
    let old : (not (eqb (get_or ranks at 0) 0) && leb (get_or ranks at 0) rank) ≡ has_lower_row rows z rank = subst (λ n. (not (eqb (get_or ranks n 0) 0) && leb (get_or ranks n 0) rank) ≡ has_lower_row rows z rank) same (noted z rank within) in
    let both : (not (eqb new 0) && leb new rank) ≡ (has_lower_row rows z rank || ltb r.rank rank) = noted_less (get_or ranks at 0) new r.rank rank (has_lower_row rows z rank) old none less kept in
    let point : eqb r.point z ≡ true = eq-eqb r.point z (sym is ∙ sym same) in
    rw here (both ∙ sym (push ∙ rw point refl)))
    (λ (other : z ≢ at).
    let there : get_or (set ranks at new) z 0 ≡ get_or ranks z 0 = get_or-set_other ranks at z new 0 other in
    let point : eqb r.point z ≡ false = ne_eqb r.point z (λ e. other (sym e ∙ sym is)) in
    let more : (has_lower_row rows z rank || (eqb r.point z && ltb r.rank rank)) ≡ has_lower_row rows z rank = rw point (grind arith) in
    rw there (noted z rank within ∙ sym (push ∙ more)))
    (cases_eq z at)

-- a row of a rank is one below the next rank, and not below it
equal-between : (rows : List Row) (z rank : ℕ) → has_lower_row rows z rank ≡ false → has_lower_row rows z (rank + 1) ≡ has_equal_row rows z rank
equal-between [] z rank none = refl
equal-between (r ∷ rs) z rank none =
    let both = or_parts (eqb r.point z && ltb r.rank rank) _ none in
    let rest = equal-between rs z rank both.1 in
    let here : (eqb r.point z && ltb r.rank (rank + 1)) ≡ (eqb r.point z && eqb r.rank rank) = grind (arith, nat_tests) in
    rw (here, rest) refl

-- no row of a rank if none is below the next
equal-none : (rows : List Row) (z rank : ℕ) → has_lower_row rows z (rank + 1) ≡ false → has_equal_row rows z rank ≡ false
equal-none [] z rank none = refl
equal-none (r ∷ rs) z rank none =
    let both = or_parts (eqb r.point z && ltb r.rank (rank + 1)) _ none in
    let rest = equal-none rs z rank both.1 in
    let here : (eqb r.point z && eqb r.rank rank) ≡ false = grind (arith, nat_tests) in
    rw (here, rest) refl

module _ (ranks : List ℕ) (rows : List Row) (z rank at : ℕ) (is : at ≡ z) (within : at < 16384) (noted : IsRanks ranks rows) where
  told : (k : ℕ) → (not (eqb (get_or ranks at 0) 0) && leb (get_or ranks at 0) k) ≡ has_lower_row rows z k
  told k = subst (λ n. (not (eqb (get_or ranks at 0) 0) && leb (get_or ranks at 0) k) ≡ has_lower_row rows n k) is (noted at k within)

  -- the least rank is that one
  pub same_noted : get_or ranks at 0 ≡ rank + 1 → has_equal_row rows z rank ≡ true
  same_noted e =
      let below : has_lower_row rows z rank ≡ false = sym (told rank) ∙ rw e (grind (arith, nat_tests)) in
      let next : has_lower_row rows z (rank + 1) ≡ true = sym (told (rank + 1)) ∙ rw e (grind (arith, nat_tests)) in
      sym (equal-between rows z rank below) ∙ next

  -- there is no rank
  pub blank_noted : get_or ranks at 0 ≡ 0 → has_equal_row rows z rank ≡ false
  blank_noted e = equal-none rows z rank (sym (told (rank + 1)) ∙ rw e refl)

  -- the least rank is greater
  pub greater_noted : rank + 1 < get_or ranks at 0 → has_equal_row rows z rank ≡ false
  greater_noted less = equal-none rows z rank (sym (told (rank + 1)) ∙ grind (arith, nat_tests))
