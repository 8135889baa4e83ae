-- The link that carries a share number.
use Rattle.std.proofs.Common.{◌≡◌, ◌≢◌, ℕ, zero, suc, ◌+◌, ◌<◌, List, [], ◌∷◌, Option, Some, None, map, Bool, true, false, refl, sym, ap, ◌∙◌, arith, inl, inr, ◌⊎◌, subst, length, slice_get, set}
use Rattle.std.specs.Prelude.{find}
use Rattle.std.specs.List.{range_with_len}
use Rattle.std.specs.Option.{option_map_or, option_map}
use Rattle.std.proofs.lemmas.Bool.{cases_eq}
use Rattle.std.proofs.lemmas.List.{length-set}
use Rattle.net_items.specs.declared.links.Link.{Link}
use Rattle.link_sets.proofs.ListLemmas.{find_gives, find_weaker, find_weaker_none}
use Rattle.net_items.specs.Links.{link_available, available_at}
use Rattle.sls_share.specs.Share.{probe_order, position_for, link_for, IsSteady}

-- the first of a range that passes
pub find_first : (f : ℕ → ℕ) (p : ℕ → Bool) (a n j : ℕ) → ((k : ℕ) → k < j → p (f (a + k)) ≡ false) → j < n → p (f (a + j)) ≡ true → find p (map f (range_with_len a n)) ≡ Some (f (a + j))
find_first f p a zero j before low here = absurd (omega arith)
find_first f p a (suc n) zero before low here =
    let e : p (f a) ≡ true = subst (λ i. p (f i) ≡ true) (let z : a + 0 ≡ a = omega arith in z) here in
    let z : a ≡ a + 0 = omega arith in
    rw e (ap (λ i. Some (f i)) z)
find_first f p a (suc n) (suc j) before low here =
    let e : p (f a) ≡ false = subst (λ i. p (f i) ≡ false) (let z : a + 0 ≡ a = omega arith in z) (before 0 (omega arith)) in
    let z : (k : ℕ) → a + suc k ≡ (a + 1) + k = λ k. omega arith in
    rw e (find_first f p (a + 1) n j (λ k lt. subst (λ i. p (f i) ≡ false) (z k) (before (suc k) (omega arith))) (omega arith)
    (subst (λ i. p (f i) ≡ true) (z j) here)
    ∙ ap (λ i. Some (f i)) (sym (z j)))

pub find_nowhere : (f : ℕ → ℕ) (p : ℕ → Bool) (a n : ℕ) → ((k : ℕ) → k < n → p (f (a + k)) ≡ false) → find p (map f (range_with_len a n)) ≡ None
find_nowhere f p a zero all = refl
find_nowhere f p a (suc n) all =
    let e : p (f a) ≡ false = subst (λ i. p (f i) ≡ false) (let z : a + 0 ≡ a = omega arith in z) (all 0 (omega arith)) in
    let z : (k : ℕ) → a + suc k ≡ (a + 1) + k = λ k. omega arith in
    rw e (find_nowhere f p (a + 1) n (λ k lt. subst (λ i. p (f i) ≡ false) (z k) (all (suc k) (omega arith))))

-- what stands at a place after a write
pub slice_get_written : {X : Type 0} (xs : List X) (k i : ℕ) (y : X) → ((i ≡ k) × (slice_get (set xs k y) i ≡ option_map (λ _. y) (slice_get xs i))) ⊎ ((i ≢ k) × (slice_get (set xs k y) i ≡ slice_get xs i))
slice_get_written [] k i y = elim (cases_eq i k) [ inl e ↦ inl (e, refl) | inr n ↦ inr (n, refl) ]
slice_get_written (x ∷ xs) zero zero y = inl (refl, refl)
slice_get_written (x ∷ xs) zero (suc i) y = inr (λ e. omega arith, refl)
slice_get_written (x ∷ xs) (suc k) zero y = inr (λ e. omega arith, refl)
slice_get_written (x ∷ xs) (suc k) (suc i) y =
    elim (slice_get_written xs k i y) [
      | inl w ↦ inl (ap suc w.0, w.1)
      | inr w ↦ inr ((λ e. w.0 (omega arith)), w.1)
    ]

-- another link that becomes unavailable moves no share number but its own
pub link_for_steady : (links : List Link) (t : ℕ) → IsSteady links t (link_for links t)
link_for_steady links t k was now at ne down = go (position_for links t) refl
  where
    weaker : (i : ℕ) → available_at (set links k now) i ≡ true → available_at links i ≡ true
    weaker i e = elim (slice_get_written links k i now) [
      | inl w ↦
          let here : slice_get links i ≡ Some was = ap (slice_get links) w.0 ∙ at in
          let now_there : slice_get (set links k now) i ≡ Some now = w.1 ∙ ap (option_map (λ _. now)) here in
          let on : link_available now ≡ true = rw now_there at e in cc
      | inr w ↦ rw w.1 at e
    ]

    same_length : length (set links k now) ≡ length links
    same_length = length-set links k now

    order : probe_order t (length (set links k now)) ≡ probe_order t (length links)
    order = ap (probe_order t) same_length

    go : (o : Option ℕ) → position_for links t ≡ o → link_for (set links k now) t ≡ link_for links t
    go None e =
        let none : position_for (set links k now) t ≡ None = ap (find (available_at (set links k now))) order ∙ find_weaker_none (available_at links) (available_at (set links k now)) (probe_order t (length links)) weaker e in
        rw (none, e) refl
    go (Some i) e =
        let other : i ≢ k = λ same.
        let at_i : slice_get links i ≡ Some was = ap (slice_get links) same ∙ at in
        let answer : link_for links t ≡ Some was.slc = rw (e, at_i) refl in ne answer in
        let unchanged : slice_get (set links k now) i ≡ slice_get links i =
        elim (slice_get_written links k i now) [ inl w ↦ absurd (other w.0) | inr w ↦ w.1 ] in
        let found : available_at links i ≡ true = (find_gives (available_at links) (λ _. Unit {0}) (probe_order t (length links)) i (λ k d h. tt) e).0 in
        let kept : available_at (set links k now) i ≡ true = ap (λ (o : Option Link). option_map_or link_available o false) unchanged ∙ found in
        let same : position_for (set links k now) t ≡ Some i = ap (find (available_at (set links k now))) order ∙ find_weaker (available_at links) (available_at (set links k now)) (probe_order t (length links)) weaker i e kept in
        rw (same, e, unchanged) refl

-- an answer that is the definition's is steady
pub steady_answer : (links : List Link) (t : ℕ) (answer : Option ℕ) → answer ≡ link_for links t → IsSteady links t answer
steady_answer links t answer e = subst (IsSteady links t) (sym e) (link_for_steady links t)
