-- The neighbours of a point one by one.
use Rattle.std.proofs.Common.{◌≡◌, ℕ, zero, suc, ◌+◌, ◌-◌, ◌<◌, ◌≤◌, List, [], ◌∷◌, Option, Some, None, cond, eqb, ltb, Bool, true, false, not, ◌&&◌, refl, sym, ap, ◌∙◌, arith, inl, inr, subst, slice_get}
use Rattle.std.specs.Prelude.{find, filter}
use Rattle.std.specs.List.{range_with_len}
use Rattle.std.specs.Option.{option_map_or, IfSome}
use Rattle.std.proofs.lemmas.Bool.{eqb-true, eqb-false, eq-eqb, ne_eqb, or_cases, ltb-true, ltb-false}
use Rattle.net_items.specs.declared.items.LinkSet.{LinkSet}
use Rattle.link_sets.specs.Availability.{set_available, connected}
use Rattle.net_items.specs.Lookups.{set_between, joins}
use Rattle.link_sets.specs.Neighbours.{code_count, next_from, other_end_of, IsCodeFrom, IsNeighbour, IsUpTo}
use Rattle.link_sets.proofs.ListLemmas.{find_weaker, find_weaker_none, and_first, and_both}

-- that code, and those after it that pass
abbrev pub rest_from : (ℕ → Bool) → Option ℕ → List ℕ
rest_from p None = []
rest_from p (Some z) = z ∷ filter p (range_with_len (z + 1) (code_count - (z + 1)))

-- the first of a range that passes
pub find_least : (p : ℕ → Bool) (a n z : ℕ) → a ≤ z → z < a + n → p z ≡ true → ((w : ℕ) → a ≤ w → w < z → p w ≡ false) → find p (range_with_len a n) ≡ Some z
find_least p a zero z low high passes before = absurd (omega arith)
find_least p a (suc n) z low high passes before = go (eqb a z) refl (λ l h. find_least p (a + 1) n z l h passes (λ w b lt. before w (omega arith) lt))
  where
    go : (b : Bool) → eqb a z ≡ b → (a + 1 ≤ z → z < a + 1 + n → find p (range_with_len (a + 1) n) ≡ Some z) → cond (p a) (Some a) (find p (range_with_len (a + 1) n)) ≡ Some z
    go true e rec =
        let same : a ≡ z = eqb-true a z e in
        let here : p a ≡ true = ap p same ∙ passes in rw here (ap Some same)
    go false e rec =
        let other : p a ≡ false = before a (omega arith) (omega (arith, low, eqb-false a z e)) in
        rw other (rec (omega (arith, low, eqb-false a z e)) (omega arith))

pub find_none_in : (p : ℕ → Bool) (a n : ℕ) → ((w : ℕ) → a ≤ w → w < a + n → p w ≡ false) → find p (range_with_len a n) ≡ None
find_none_in p a zero none = refl
find_none_in p a (suc n) none =
    let other : p a ≡ false = none a (omega arith) (omega arith) in
    rw other (find_none_in p (a + 1) n (λ w low high. none w (omega arith) (omega arith)))

-- what is found in a range is in it, and passes
pub found_in : (p : ℕ → Bool) (a n z : ℕ) → find p (range_with_len a n) ≡ Some z → (a ≤ z) × (z < a + n) × (p z ≡ true)
found_in p a zero z e = cc
found_in p a (suc n) z e = go (p a) refl (found_in p (a + 1) n z)
  where
    go : (b : Bool) → p a ≡ b → (find p (range_with_len (a + 1) n) ≡ Some z → (a + 1 ≤ z) × (z < a + 1 + n) × (p z ≡ true)) → (a ≤ z) × (z < a + suc n) × (p z ≡ true)
    go true t rec =
        let here : Some a ≡ Some z = rw t at e in
        let same : a ≡ z = cc in (omega arith, omega arith, ap p (sym same) ∙ t)
    go false t rec =
        let r = rec (rw t at e) in (omega (arith, r.0), omega (arith, r.1), r.2)

-- the codes that pass, from the first of them on
pub filter_next : (p : ℕ → Bool) (a n b : ℕ) → a + n ≡ b → (o : Option ℕ) → find p (range_with_len a n) ≡ o
    → filter p (range_with_len a n) ≡ option_map_or (λ z. z ∷ filter p (range_with_len (z + 1) (b - (z + 1)))) o []
filter_next p a zero b is o e = subst (λ (o : Option ℕ). [] ≡ option_map_or (λ z. z ∷ filter p (range_with_len (z + 1) (b - (z + 1)))) o []) e refl
filter_next p a (suc n) b is o e = go (p a) refl (filter_next p (a + 1) n b (omega arith) o)
  where
    go : (t : Bool) → p a ≡ t → (find p (range_with_len (a + 1) n) ≡ o → filter p (range_with_len (a + 1) n) ≡ option_map_or (λ z. z ∷ filter p (range_with_len (z + 1) (b - (z + 1)))) o [])
        → cond (p a) (a ∷ filter p (range_with_len (a + 1) n)) (filter p (range_with_len (a + 1) n)) ≡ option_map_or (λ z. z ∷ filter p (range_with_len (z + 1) (b - (z + 1)))) o []
    go true t rec =
        let here : Some a ≡ o = rw t at e in
        let left : n ≡ b - (a + 1) = omega arith in
        rw t (subst (λ (o : Option ℕ). a ∷ filter p (range_with_len (a + 1) n) ≡ option_map_or (λ z. z ∷ filter p (range_with_len (z + 1) (b - (z + 1)))) o []) here
        (ap (λ m. a ∷ filter p (range_with_len (a + 1) m)) left))
    go false t rec = rw t (rec (rw t at e))

pub count_is : code_count ≡ 16384
unfolding code_count
count_is = refl

pub rest_is : (p : ℕ → Bool) (a : ℕ) → a ≤ code_count → filter p (range_with_len a (code_count - a)) ≡ rest_from p (next_from p a)
rest_is p a low = go (next_from p a) refl
  where
    go : (o : Option ℕ) → next_from p a ≡ o → filter p (range_with_len a (code_count - a)) ≡ rest_from p (next_from p a)
    go None e = filter_next p a (code_count - a) code_count (omega arith) None e ∙ sym (rw e refl)
    go (Some z) e = filter_next p a (code_count - a) code_count (omega arith) (Some z) e ∙ sym (rw e refl)

-- what the next one is
pub next_code : (p : ℕ → Bool) (a : ℕ) → IfSome (next_from p a) (IsCodeFrom a)
next_code p a = go (next_from p a) refl
  where
    go : (o : Option ℕ) → next_from p a ≡ o → IfSome o (IsCodeFrom a)
    go None e = tt
    go (Some z) e = let r = found_in p a (code_count - a) z e in record { late = r.0; coded = omega (arith, r.0, r.1, count_is) }

-- the next one but d, where d is the next
pub find_past : (p : ℕ → Bool) (d a n : ℕ) → d < a → find (λ z. p z && not (eqb z d)) (range_with_len a n) ≡ find p (range_with_len a n)
find_past p d a zero low = refl
find_past p d a (suc n) low =
    let other : eqb a d ≡ false = ne_eqb a d (omega arith) in
    go (p a) refl other (find_past p d (a + 1) n (omega arith))
  where
    go : (b : Bool) → p a ≡ b → eqb a d ≡ false → find (λ z. p z && not (eqb z d)) (range_with_len (a + 1) n) ≡ find p (range_with_len (a + 1) n)
        → cond (p a && not (eqb a d)) (Some a) (find (λ z. p z && not (eqb z d)) (range_with_len (a + 1) n)) ≡ cond (p a) (Some a) (find p (range_with_len (a + 1) n))
    go true t o rec = rw (t, o) refl
    go false t o rec = rw t rec

pub find_skip : (p : ℕ → Bool) (d a n b : ℕ) → a + n ≡ b → find p (range_with_len a n) ≡ Some d → find (λ z. p z && not (eqb z d)) (range_with_len a n) ≡ find p (range_with_len (d + 1) (b - (d + 1)))
find_skip p d a zero b is e = cc
find_skip p d a (suc n) b is e = go (p a) refl (find_skip p d (a + 1) n b (omega arith))
  where
    go : (t : Bool) → p a ≡ t → (find p (range_with_len (a + 1) n) ≡ Some d → find (λ z. p z && not (eqb z d)) (range_with_len (a + 1) n) ≡ find p (range_with_len (d + 1) (b - (d + 1))))
        → cond (p a && not (eqb a d)) (Some a) (find (λ z. p z && not (eqb z d)) (range_with_len (a + 1) n)) ≡ find p (range_with_len (d + 1) (b - (d + 1)))
    go true t rec =
        let here : Some a ≡ Some d = rw t at e in
        let same : a ≡ d = cc in
        let test : eqb a d ≡ true = eq-eqb a d same in
        let left : n ≡ b - (a + 1) = omega arith in
        rw (t, test) (find_past p d (a + 1) n (omega arith) ∙ ap (λ m. find p (range_with_len (a + 1) m)) left ∙ ap (λ q. find p (range_with_len (q + 1) (b - (q + 1)))) same)
    go false t rec = rw t (rec (rw t at e))

pub next_skips : (p : ℕ → Bool) (d a : ℕ) → a ≤ code_count → next_from p a ≡ Some d → next_from (λ z. p z && not (eqb z d)) a ≡ next_from p (d + 1)
next_skips p d a low e = find_skip p d a (code_count - a) code_count (omega arith) e

pub next_keeps : (p : ℕ → Bool) (d a : ℕ) (o : Option ℕ) → next_from p a ≡ o → option_map_or (λ z. eqb z d) o false ≡ false → next_from (λ z. p z && not (eqb z d)) a ≡ o
next_keeps p d a None e ne = find_weaker_none p (λ z. p z && not (eqb z d)) (range_with_len a (code_count - a)) (λ x t. and_first (p x) (not (eqb x d)) t) e
next_keeps p d a (Some z) e ne =
    let passes : p z ≡ true = (found_in p a (code_count - a) z e).2 in
    let apart : not (eqb z d) ≡ true = rw ne refl in
    find_weaker p (λ z. p z && not (eqb z d)) (range_with_len a (code_count - a)) (λ x t. and_first (p x) (not (eqb x d)) t) z e (and_both (p z) (not (eqb z d)) passes apart)

-- the set that joins two points has the one as its other end
pub joins_other : (y w : ℕ) (set : LinkSet) → joins y w set ≡ true → other_end_of y set ≡ Some w
joins_other y w set e =
    elim (or_cases (eqb set.a y && eqb set.b w) (eqb set.a w && eqb set.b y) e) [
      | inl h ↦
          let a : eqb set.a y ≡ true = and_first (eqb set.a y) (eqb set.b w) h in
          let b : eqb set.b w ≡ true = second (eqb set.a y) (eqb set.b w) h in
          rw a (ap Some (eqb-true set.b w b))
      | inr h ↦
          let a : set.a ≡ w = eqb-true set.a w (and_first (eqb set.a w) (eqb set.b y) h) in
          let b : eqb set.b y ≡ true = second (eqb set.a w) (eqb set.b y) h in
          split (eqb set.a y) refl a b
    ]
  where
    second : (a b : Bool) → (a && b) ≡ true → b ≡ true
    second true b e = e
    second false b e = cc

    split : (t : Bool) → eqb set.a y ≡ t → set.a ≡ w → eqb set.b y ≡ true → cond (eqb set.a y) (Some set.b) (cond (eqb set.b y) (Some set.a) None) ≡ Some w
    split true t a b = rw t (ap Some (eqb-true set.b y b ∙ sym (eqb-true set.a y t) ∙ a))
    split false t a b = rw (t, b) (ap Some a)

-- what is found stands in a place, and passes
pub find_place : {X : Type 0} (p : X → Bool) (xs : List X) (x : X) → find p xs ≡ Some x → (k : ℕ) × (slice_get xs k ≡ Some x) × (p x ≡ true)
find_place p [] x e = cc
find_place p (y ∷ ys) x e = go (p y) refl (find_place p ys x)
  where
    go : (b : Bool) → p y ≡ b → (find p ys ≡ Some x → (k : ℕ) × (slice_get ys k ≡ Some x) × (p x ≡ true)) → (k : ℕ) × (slice_get (y ∷ ys) k ≡ Some x) × (p x ≡ true)
    go true t rec =
        let here : Some y ≡ Some x = rw t at e in
        let same : y ≡ x = cc in (0, here, ap p (sym same) ∙ t)
    go false t rec = let r = rec (rw t at e) in (suc r.0, r.1, r.2)

module _ (sets : List LinkSet) (y from : ℕ) where
  -- the least over all sets is the next
  pub next_is : (least : Option ℕ) → IfSome least (IsNeighbour sets y from)
      → ((k w : ℕ) (set : LinkSet) → slice_get sets k ≡ Some set → joins y w set ≡ true → from ≤ w → connected sets y w ≡ true → IsUpTo least w)
      → least ≡ next_from (connected sets y) from
  next_is least near before = go least refl near
    where
      up_to : (w : ℕ) → from ≤ w → connected sets y w ≡ true → IsUpTo least w
      up_to w late joined = at (set_between sets y w) refl
        where
          at : (o : Option LinkSet) → set_between sets y w ≡ o → IsUpTo least w
          at None e = let no : false ≡ true = sym (ap (λ (o : Option LinkSet). option_map_or set_available o false) e) ∙ joined in cc
          at (Some set) e = let p = find_place (joins y w) sets set e in before p.0 w set p.1 p.2 late joined

      false_unless : (b : Bool) → (b ≡ true → ⊥) → b ≡ false
      false_unless true h = absurd (h refl)
      false_unless false h = refl

      go : (o : Option ℕ) → least ≡ o → IfSome o (IsNeighbour sets y from) → o ≡ next_from (connected sets y) from
      go None e n = sym (find_none_in (connected sets y) from (code_count - from) (λ w low high. false_unless (connected sets y w) (λ t. subst (λ (o : Option ℕ). IsUpTo o w) e (up_to w low t))))
      go (Some z) e n = sym (find_least (connected sets y) from (code_count - from) z n.late (omega (arith, n.late, n.coded, count_is)) n.joined (λ w low lt. false_unless (connected sets y w) (below w low lt)))
        where
          below : (w : ℕ) → from ≤ w → w < z → connected sets y w ≡ true → ⊥
          below w low lt t = let l : z ≤ w = subst (λ (o : Option ℕ). IsUpTo o w) e (up_to w low t) in omega (arith, l, lt)

-- the codes that pass from a on, wherever that is
pub rest_any : (p : ℕ → Bool) (a : ℕ) → filter p (range_with_len a (code_count - a)) ≡ rest_from p (next_from p a)
rest_any p a = go (ltb code_count a) refl
  where
    go : (b : Bool) → ltb code_count a ≡ b → filter p (range_with_len a (code_count - a)) ≡ rest_from p (next_from p a)
    go true e = let none : code_count - a ≡ 0 = omega (arith, ltb-true code_count a e) in rw none refl
    go false e = rest_is p a (ltb-false code_count a e)

pub rest_none : (p : ℕ → Bool) (a : ℕ) → next_from p a ≡ None → filter p (range_with_len a (code_count - a)) ≡ []
rest_none p a e = rest_any p a ∙ ap (rest_from p) e

pub rest_some : (p : ℕ → Bool) (a z : ℕ) → next_from p a ≡ Some z → filter p (range_with_len a (code_count - a)) ≡ z ∷ filter p (range_with_len (z + 1) (code_count - (z + 1)))
rest_some p a z e = rest_any p a ∙ ap (rest_from p) e

pub rest_whole : (p : ℕ → Bool) → filter p (range_with_len 0 (code_count - 0)) ≡ filter p (range_with_len 0 code_count)
rest_whole p = let all : code_count - 0 ≡ code_count = omega arith in ap (λ n. filter p (range_with_len 0 n)) all
