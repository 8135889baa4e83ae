-- The links of a set by their bits: what is found among them, and what a change of bits does.
use Rattle.std.proofs.Common.{◌≡◌, ◌≢◌, ℕ, zero, suc, ◌+◌, ◌<◌, ◌≤◌, ◌/◌, ◌*◌, ◌%◌, ◌-◌, ◌^◌, List, [], ◌∷◌, ◌++◌, Option, Some, None, is_some, All, map, cond, eqb, ltb, Bool, true, false, ◌||◌, ◌&&◌, not, refl, sym, ap, ◌∙◌, arith, inl, inr, subst, length, zero-add, append-nil, min, max}
use Rattle.std.specs.Prelude.{filter}
use Rattle.std.specs.Int.{bit_at, w16, bit_not}
use Rattle.std.specs.Int.RustNames.{bit_or, bit_and}
use Rattle.std.specs.List.{range_with_len, list_any, AllByRecursion}
use mir.Val.{bits}
use Rattle.std.proofs.lemmas.Bool.{cases_eq, eq-eqb, ltb-true, ltb-false, ne_eqb}
use Rattle.std.proofs.lemmas.List.Elements.{All-from_recursion}
use Rattle.std.proofs.lemmas.List.FromFn.{filter_of_map_range_with_len_more}
use Rattle.std.proofs.lemmas.Nat.{mod_below, and_le_r}
use Rattle.std.proofs.lemmas.Nat.Bits.{bit_at-zero, bit_at-suc, bit_at-lt, bit_at_lowest, bit_at_and, bit_at_or, bit_at_not, bit_at_set_same, bit_at_set_other, bit_at_clear_same, bit_at_clear_other}
use Rattle.link_state.specs.declared.marks.Marks.{Marks}
use Rattle.link_state.specs.Marks.{is_clear}
use Rattle.net_items.specs.Keyed.{IsRising, at_key, put, without}
use Rattle.net_items.specs.declared.links.Link.{Link}
use Rattle.net_items.specs.declared.links.MarkBits.{MarkBits}
use Rattle.net_items.specs.Links.{has_bit, marks_in, link_in, links_in, IsWithBit, IsWithMarks}
use Rattle.net_items.proofs.KeyedLemmas.{at_key-put, at_key-without, IsRising-put, IsRising-without, same_found}

-- ---- bits

pub bit_set : (n slc : ℕ) (set : Bool) → set ≡ true → slc < 16 → IsWithBit n slc set (bit_or n (1 * 2 ^ slc % 65536))
bit_set n slc set is small = record {
  here = eq-eqb _ 1 (bit_at_set_same w16 n slc small) ∙ sym is;
  others = λ c low ne. ap (λ b. eqb b 1) (bit_at_set_other w16 n slc small c ne);
}

pub bit_cleared : (n slc : ℕ) (set : Bool) → set ≡ false → slc < 16 → IsWithBit n slc set (bit_and n (65535 - 1 * 2 ^ slc % 65536))
bit_cleared n slc set is small = record {
  here = ap (λ b. eqb b 1) (bit_at_clear_same w16 n slc small) ∙ sym is;
  others = λ c low ne. ap (λ b. eqb b 1) (bit_at_clear_other w16 n slc small c low ne);
}

-- ---- what is found among links of a range of codes

module _ (p : Link → Bool) (f : ℕ → Link) (keeps : (c : ℕ) → (f c).slc ≡ c) where
  abbrev among : ℕ → ℕ → List Link
  among a n = filter p (map f (range_with_len a n))

  all_from : (a n b : ℕ) → b ≤ a → AllByRecursion (λ (l : Link). b ≤ l.slc) (among a n)
  all_from a zero b le = tt
  all_from a (suc n) b le = go (p (f a)) refl (all_from (a + 1) n b (omega arith))
    where
      go : (t : Bool) → p (f a) ≡ t → AllByRecursion (λ (l : Link). b ≤ l.slc) (among (a + 1) n) → AllByRecursion (λ (l : Link). b ≤ l.slc) (among a (suc n))
      go true e rest = rw e (subst (λ c. b ≤ c) (sym (keeps a)) le, rest)
      go false e rest = rw e rest

  all_below : (a n b : ℕ) → a + n ≤ b → AllByRecursion (λ (l : Link). l.slc < b) (among a n)
  all_below a zero b le = tt
  all_below a (suc n) b le = go (p (f a)) refl (all_below (a + 1) n b (omega arith))
    where
      go : (t : Bool) → p (f a) ≡ t → AllByRecursion (λ (l : Link). l.slc < b) (among (a + 1) n) → AllByRecursion (λ (l : Link). l.slc < b) (among a (suc n))
      go true e rest = rw e (subst (λ c. c < b) (sym (keeps a)) (omega arith), rest)
      go false e rest = rw e rest

  all_more : (a : ℕ) (ls : List Link) → AllByRecursion (λ (l : Link). a + 1 ≤ l.slc) ls → AllByRecursion (λ (l : Link). a < l.slc) ls
  all_more a [] all = tt
  all_more a (l ∷ ls) all = (omega (arith, all.0), all_more a ls all.1)

  rising_among : (a n : ℕ) → IsRising (λ (l : Link). l.slc) (among a n)
  rising_among a zero = tt
  rising_among a (suc n) = go (p (f a)) refl (rising_among (a + 1) n)
    where
      above : AllByRecursion (λ (l : Link). (f a).slc < l.slc) (among (a + 1) n)
      above = subst (λ c. AllByRecursion (λ (l : Link). c < l.slc) (among (a + 1) n)) (sym (keeps a)) (all_more a (among (a + 1) n) (all_from (a + 1) n (a + 1) (omega arith)))

      go : (t : Bool) → p (f a) ≡ t → IsRising (λ (l : Link). l.slc) (among (a + 1) n) → IsRising (λ (l : Link). l.slc) (among a (suc n))
      go true e rest = rw e (above, rest)
      go false e rest = rw e rest

  few_among : (a n : ℕ) → length (among a n) ≤ n
  few_among a zero = omega arith
  few_among a (suc n) = go (p (f a)) refl (few_among (a + 1) n)
    where
      go : (t : Bool) → p (f a) ≡ t → length (among (a + 1) n) ≤ n → length (among a (suc n)) ≤ suc n
      go true e rest = rw e (omega (arith, rest))
      go false e rest = rw e (omega (arith, rest))

  -- one more of the range, of which it is known that its code isn't looked for
  found_next : (a n k : ℕ) → a ≢ k → at_key (λ (l : Link). l.slc) k (among a (suc n)) ≡ at_key (λ (l : Link). l.slc) k (among (a + 1) n)
  found_next a n k ne = go (p (f a)) refl
    where
      off : eqb (f a).slc k ≡ false
      off = ne_eqb (f a).slc k (λ e. ne (sym (keeps a) ∙ e))

      go : (t : Bool) → p (f a) ≡ t → at_key (λ (l : Link). l.slc) k (among a (suc n)) ≡ at_key (λ (l : Link). l.slc) k (among (a + 1) n)
      go true e = rw (e, off) refl
      go false e = rw e refl

  -- no link has a code that isn't in the range
  found_below : (a n k : ℕ) → k < a → at_key (λ (l : Link). l.slc) k (among a n) ≡ None
  found_below a zero k low = refl
  found_below a (suc n) k low = found_next a n k (λ e. omega (arith, e, low)) ∙ found_below (a + 1) n k (omega arith)

  found_past : (a n k : ℕ) → a + n ≤ k → at_key (λ (l : Link). l.slc) k (among a n) ≡ None
  found_past a zero k high = refl
  found_past a (suc n) k high = found_next a n k (λ e. omega (arith, e, high)) ∙ found_past (a + 1) n k (omega arith)

  -- the link of a code in the range is found if it passes
  found_among : (a n k : ℕ) → a ≤ k → k < a + n → at_key (λ (l : Link). l.slc) k (among a n) ≡ cond (p (f k)) (Some (f k)) None
  found_among a zero k low high = absurd (omega arith)
  found_among a (suc n) k low high = elim (cases_eq a k) [
    | inl e ↦ subst (λ c. at_key (λ (l : Link). l.slc) c (among a (suc n)) ≡ cond (p (f c)) (Some (f c)) None) e (here (p (f a)) refl)
    | inr ne ↦ found_next a n k ne ∙ found_among (a + 1) n k (omega (arith, low, ne)) (omega (arith, high))
  ]
    where
      here : (t : Bool) → p (f a) ≡ t → at_key (λ (l : Link). l.slc) a (among a (suc n)) ≡ cond (p (f a)) (Some (f a)) None
      here true e = let is : eqb (f a).slc a ≡ true = eq-eqb (f a).slc a (keeps a) in rw (e, is) refl
      here false e = rw e (found_below (a + 1) n a (omega arith))

-- ---- what is found among the links of a set

pub links_rise : (there : ℕ) (m : MarkBits) → IsRising (λ (l : Link). l.slc) (links_in there m)
unfolding links_in
links_rise there m = rising_among (λ (l : Link). has_bit there l.slc) (link_in m) (λ c. refl) 0 16

pub links_small : (there : ℕ) (m : MarkBits) → All (λ (l : Link). l.slc < 16) (links_in there m)
unfolding links_in
links_small there m = All-from_recursion (λ (l : Link). l.slc < 16) _ (all_below (λ (l : Link). has_bit there l.slc) (link_in m) (λ c. refl) 0 16 16 (omega arith))

pub links_few : (there : ℕ) (m : MarkBits) → length (links_in there m) ≤ 16
unfolding links_in
links_few there m = few_among (λ (l : Link). has_bit there l.slc) (link_in m) (λ c. refl) 0 16

-- what is found of a code
pub found_is : (there : ℕ) (m : MarkBits) (k : ℕ) → k < 16 → at_key (λ (l : Link). l.slc) k (links_in there m) ≡ cond (has_bit there k) (Some (link_in m k)) None
unfolding links_in
found_is there m k low = found_among (λ (l : Link). has_bit there l.slc) (link_in m) (λ c. refl) 0 16 k (omega arith) (omega (arith, low))

pub link_there : (there : ℕ) (m : MarkBits) (k : ℕ) → k < 16 → has_bit there k ≡ true → at_key (λ (l : Link). l.slc) k (links_in there m) ≡ Some (link_in m k)
link_there there m k low up = found_is there m k low ∙ rw up refl

pub link_absent : (there : ℕ) (m : MarkBits) (k : ℕ) → k < 16 → has_bit there k ≡ false → at_key (λ (l : Link). l.slc) k (links_in there m) ≡ None
link_absent there m k low down = found_is there m k low ∙ rw down refl

pub link_beyond : (there : ℕ) (m : MarkBits) (k : ℕ) → 16 ≤ k → at_key (λ (l : Link). l.slc) k (links_in there m) ≡ None
unfolding links_in
link_beyond there m k high = found_past (λ (l : Link). has_bit there l.slc) (link_in m) (λ c. refl) 0 16 k (omega (arith, high))

-- a code is one of the sixteen or not
by_code : (P : ℕ → Type 0) (k : ℕ) → (k < 16 → P k) → (16 ≤ k → P k) → P k
by_code P k low high = go (ltb k 16) refl
  where
    go : (b : Bool) → ltb k 16 ≡ b → P k
    go true e = low (ltb-true _ _ e)
    go false e = high (ltb-false _ _ e)

pub none_there : (m : MarkBits) → links_in 0 m ≡ []
none_there m = same_found (λ (l : Link). l.slc) (links_in 0 m) [] (links_rise 0 m) tt
    (λ k. by_code (λ k. at_key (λ (l : Link). l.slc) k (links_in 0 m) ≡ None) k
    (λ low. link_absent 0 m k low (ap (λ b. eqb b 1) (bit_at-zero k)))
    (λ high. link_beyond 0 m k high))

-- ---- what a change of bits does

-- a link was put in
pub put_is : (there there' : ℕ) (m m' : MarkBits) (link : Link) → link.slc < 16 → IsWithBit there link.slc true there' → IsWithMarks m link.slc link.marks m'
    → links_in there' m' ≡ put (λ (l : Link). l.slc) link (links_in there m)
put_is there there' m m' link small bit marks =
    same_found (λ (l : Link). l.slc) (links_in there' m') (put (λ (l : Link). l.slc) link (links_in there m))
    (links_rise there' m') (IsRising-put (λ (l : Link). l.slc) link (links_in there m) (links_rise there m))
    (λ k. by_code Same k (in_range k) (beyond k) ∙ sym (at_key-put (λ (l : Link). l.slc) link (links_in there m) k))
  where
    Same : ℕ → Type 0
    Same k = at_key (λ (l : Link). l.slc) k (links_in there' m') ≡ cond (eqb link.slc k) (Some link) (at_key (λ (l : Link). l.slc) k (links_in there m))

    beyond : (k : ℕ) → 16 ≤ k → Same k
    beyond k high =
        let off : eqb link.slc k ≡ false = ne_eqb link.slc k (λ e. omega (arith, e, small, high)) in
        link_beyond there' m' k high ∙ sym (rw off (link_beyond there m k high))

    in_range : (k : ℕ) → k < 16 → Same k
    in_range k low = elim (cases_eq link.slc k) [
      | inl e ↦ subst Same e
          (let on : eqb link.slc link.slc ≡ true = eq-eqb link.slc link.slc refl in
          link_there there' m' link.slc small bit.here ∙ rw on (ap (λ (marks : Marks). Some (record { slc = link.slc; marks = marks })) marks.here))
      | inr ne ↦
          let off : eqb link.slc k ≡ false = ne_eqb link.slc k ne in
          let there_too : has_bit there' k ≡ has_bit there k = bit.others k low (λ e. ne (sym e)) in
          let marked_too : marks_in m' k ≡ marks_in m k = marks.others k low (λ e. ne (sym e)) in
          found_is there' m' k low
          ∙ ap (λ b. cond b (Some (link_in m' k)) None) there_too
          ∙ ap (λ (marks : Marks). cond (has_bit there k) (Some (record { slc = k; marks = marks })) None) marked_too
          ∙ sym (rw off (found_is there m k low))
    ]

-- a link was taken out
pub without_is : (there there' : ℕ) (m : MarkBits) (slc : ℕ) → slc < 16 → IsWithBit there slc false there'
    → links_in there' m ≡ without (λ (l : Link). l.slc) slc (links_in there m)
without_is there there' m slc small bit =
    same_found (λ (l : Link). l.slc) (links_in there' m) (without (λ (l : Link). l.slc) slc (links_in there m))
    (links_rise there' m) (IsRising-without (λ (l : Link). l.slc) slc (links_in there m) (links_rise there m))
    (λ k. by_code Same k (in_range k) (beyond k) ∙ sym (at_key-without (λ (l : Link). l.slc) slc (links_in there m) k (links_rise there m)))
  where
    Same : ℕ → Type 0
    Same k = at_key (λ (l : Link). l.slc) k (links_in there' m) ≡ cond (eqb slc k) None (at_key (λ (l : Link). l.slc) k (links_in there m))

    beyond : (k : ℕ) → 16 ≤ k → Same k
    beyond k high =
        let off : eqb slc k ≡ false = ne_eqb slc k (λ e. omega (arith, e, small, high)) in
        link_beyond there' m k high ∙ sym (rw off (link_beyond there m k high))

    in_range : (k : ℕ) → k < 16 → Same k
    in_range k low = elim (cases_eq slc k) [
      | inl e ↦ subst Same e
          (let on : eqb slc slc ≡ true = eq-eqb slc slc refl in
          link_absent there' m slc small bit.here ∙ rw on refl)
      | inr ne ↦
          let off : eqb slc k ≡ false = ne_eqb slc k ne in
          found_is there' m k low
          ∙ ap (λ b. cond b (Some (link_in m k)) None) (bit.others k low (λ e. ne (sym e)))
          ∙ sym (rw off (found_is there m k low))
    ]

all_stay : (slc : ℕ) (ls : List Link) → at_key (λ (l : Link). l.slc) slc ls ≡ None → ls ≡ without (λ (l : Link). l.slc) slc ls
all_stay slc [] none = refl
all_stay slc (l ∷ ls) none = step (eqb l.slc slc) refl none (all_stay slc ls)
  where
    step : (b : Bool) → eqb l.slc slc ≡ b → at_key (λ (l : Link). l.slc) slc (l ∷ ls) ≡ None → (at_key (λ (l : Link). l.slc) slc ls ≡ None → ls ≡ without (λ (l : Link). l.slc) slc ls) → l ∷ ls ≡ without (λ (l : Link). l.slc) slc (l ∷ ls)
    step true e none rest = let some : Some l ≡ None = rw e at none in absurd (cc)
    step false e none rest = rw e (ap (λ (xs : List Link). l ∷ xs) (rest (rw e at none)))

-- none of a code above can be taken out
pub without_beyond : (there : ℕ) (m : MarkBits) (slc : ℕ) → 16 ≤ slc → links_in there m ≡ without (λ (l : Link). l.slc) slc (links_in there m)
without_beyond there m slc high = all_stay slc (links_in there m) (link_beyond there m slc high)

-- ---- a link without a mark

has_and : (a b i : ℕ) → has_bit (bit_and a b) i ≡ (has_bit a i && has_bit b i)
has_and a b i = ap (λ n. eqb n 1) (bit_at_and a b i) ∙ go (bit_at a i) (bit_at b i) (bit_at-lt a i) (bit_at-lt b i)
  where
    go : (x y : ℕ) → x < 2 → y < 2 → eqb (min x y) 1 ≡ (eqb x 1 && eqb y 1)
    go zero zero lt lt' = refl
    go zero (suc zero) lt lt' = refl
    go (suc zero) zero lt lt' = refl
    go (suc zero) (suc zero) lt lt' = refl
    go x (suc (suc y)) lt lt' = absurd (omega arith)
    go (suc (suc x)) y lt lt' = absurd (omega arith)

has_or : (a b i : ℕ) → has_bit (bit_or a b) i ≡ (has_bit a i || has_bit b i)
has_or a b i = ap (λ n. eqb n 1) (bit_at_or a b i) ∙ go (bit_at a i) (bit_at b i) (bit_at-lt a i) (bit_at-lt b i)
  where
    go : (x y : ℕ) → x < 2 → y < 2 → eqb (max x y) 1 ≡ (eqb x 1 || eqb y 1)
    go zero zero lt lt' = refl
    go zero (suc zero) lt lt' = refl
    go (suc zero) zero lt lt' = refl
    go (suc zero) (suc zero) lt lt' = refl
    go x (suc (suc y)) lt lt' = absurd (omega arith)
    go (suc (suc x)) y lt lt' = absurd (omega arith)

has_not : (n i : ℕ) → n < 65536 → i < 16 → has_bit (bit_not w16 n) i ≡ not (has_bit n i)
has_not n i small low = ap (λ b. eqb b 1) (bit_at_not w16 n i small low) ∙ go (bit_at n i) (bit_at-lt n i)
  where
    go : (x : ℕ) → x < 2 → eqb (1 - x) 1 ≡ not (eqb x 1)
    go zero lt = refl
    go (suc zero) lt = refl
    go (suc (suc x)) lt = absurd (omega arith)

-- a number has a bit if it isn't 0
any_bit : (k n a : ℕ) (t : ℕ → Bool) → n < 2 ^ k → ((i : ℕ) → i < k → t (a + i) ≡ has_bit n i) → list_any t (range_with_len a k) ≡ not (eqb n 0)
any_bit zero n a t small tells = let none : n ≡ 0 = omega arith in rw none refl
any_bit (suc k) n a t small tells =
    let start : a + 0 ≡ a = omega arith in
    let next : (i : ℕ) → a + suc i ≡ a + 1 + i = λ i. omega arith in
    let first : t a ≡ eqb (n % 2) 1 = ap t (sym start) ∙ tells 0 (omega arith) ∙ ap (λ b. eqb b 1) (bit_at_lowest n) in
    let rest : list_any t (range_with_len (a + 1) k) ≡ not (eqb (n / 2) 0)
    = any_bit k (n / 2) (a + 1) t (omega (arith, small)) (λ i low. ap t (sym (next i)) ∙ tells (suc i) (omega arith) ∙ ap (λ b. eqb b 1) (bit_at-suc n i)) in
    rw (first, rest) (go (n % 2) (n / 2) (mod_below n 2 (omega arith)) (omega arith))
  where
    go : (r q : ℕ) → r < 2 → n ≡ q * 2 + r → (eqb r 1 || not (eqb q 0)) ≡ not (eqb n 0)
    go zero zero lt e = let is : n ≡ 0 = omega (arith, e) in rw is refl
    go zero (suc q) lt e = let is : eqb n 0 ≡ false = ne_eqb n 0 (λ z. omega (arith, e, z)) in let more : eqb (suc q) 0 ≡ false = ne_eqb (suc q) 0 (λ z. omega (arith, z)) in rw (is, more) refl
    go (suc zero) q lt e = let is : eqb n 0 ≡ false = ne_eqb n 0 (λ z. omega (arith, e, z)) in rw is refl
    go (suc (suc r)) q lt e = absurd (omega arith)

any_among : (p q : Link → Bool) (f : ℕ → Link) (a n : ℕ) → list_any q (filter p (map f (range_with_len a n))) ≡ list_any (λ c. p (f c) && q (f c)) (range_with_len a n)
any_among p q f a zero = refl
any_among p q f a (suc n) = go (p (f a)) refl (any_among p q f (a + 1) n)
  where
    go : (t : Bool) → p (f a) ≡ t → list_any q (filter p (map f (range_with_len (a + 1) n))) ≡ list_any (λ c. p (f c) && q (f c)) (range_with_len (a + 1) n)
        → list_any q (filter p (map f (range_with_len a (suc n)))) ≡ list_any (λ c. p (f c) && q (f c)) (range_with_len a (suc n))
    go true e rest = rw e (ap (λ b. q (f a) || b) rest)
    go false e rest = rw e rest

-- the bits of the links that have a mark
abbrev marked_bits : MarkBits → ℕ
marked_bits m = bit_or (bit_or (bit_or (bit_or m.failed m.blocked_a) m.blocked_b) m.inhibited_a) m.inhibited_b

pub marked_is : (m : MarkBits) (i : ℕ) → not (has_bit (marked_bits m) i) ≡ is_clear (marks_in m i)
marked_is m i =
    rw (
      has_or (bit_or (bit_or (bit_or m.failed m.blocked_a) m.blocked_b) m.inhibited_a) m.inhibited_b i,
      has_or (bit_or (bit_or m.failed m.blocked_a) m.blocked_b) m.inhibited_a i,
      has_or (bit_or m.failed m.blocked_a) m.blocked_b i,
      has_or m.failed m.blocked_a i,
    )
    (go (has_bit m.failed i) (has_bit m.blocked_a i) (has_bit m.blocked_b i) (has_bit m.inhibited_a i) (has_bit m.inhibited_b i))
  where
    go : (a b c d e : Bool) → not ((((a || b) || c) || d) || e) ≡ not (a || b || c || d || e)
    go true b c d e = refl
    go false true c d e = refl
    go false false true d e = refl
    go false false false true e = refl
    go false false false false e = refl

pub any_clear : (there marked : ℕ) (m : MarkBits) → marked < 65536 → ((i : ℕ) → not (has_bit marked i) ≡ is_clear (marks_in m i))
    → not (eqb (bit_and there (65535 - marked)) 0) ≡ list_any (λ (l : Link). is_clear l.marks) (links_in there m)
unfolding links_in
any_clear there marked m small tells =
    let low : bit_and there (65535 - marked) ≤ 65535 - marked = and_le_r there (65535 - marked) in
    sym (any_among (λ (l : Link). has_bit there l.slc) (λ (l : Link). is_clear l.marks) (link_in m) 0 16
    ∙ any_bit 16 (bit_and there (65535 - marked)) 0 (λ c. has_bit there c && is_clear (marks_in m c)) (omega (arith, low))
    (λ i lt. rw (zero-add i, has_and there (65535 - marked) i, has_not marked i small lt, tells i) refl))

-- ---- a link of a code

any_found : (slc : ℕ) (ls : List Link) → is_some (at_key (λ (l : Link). l.slc) slc ls) ≡ list_any (λ (l : Link). eqb l.slc slc) ls
any_found slc [] = refl
any_found slc (l ∷ ls) = step (eqb l.slc slc) refl (any_found slc ls)
  where
    step : (b : Bool) → eqb l.slc slc ≡ b → is_some (at_key (λ (l : Link). l.slc) slc ls) ≡ list_any (λ (l : Link). eqb l.slc slc) ls → is_some (at_key (λ (l : Link). l.slc) slc (l ∷ ls)) ≡ list_any (λ (l : Link). eqb l.slc slc) (l ∷ ls)
    step true e rest = rw e refl
    step false e rest = rw e rest

pub codes_are : (there : ℕ) (m : MarkBits) (slc : ℕ) → slc < 16 → has_bit there slc ≡ list_any (λ (l : Link). eqb l.slc slc) (links_in there m)
codes_are there m slc low = go (has_bit there slc) refl ∙ any_found slc (links_in there m)
  where
    go : (b : Bool) → has_bit there slc ≡ b → has_bit there slc ≡ is_some (at_key (λ (l : Link). l.slc) slc (links_in there m))
    go true up = up ∙ sym (ap (λ (o : Option Link). is_some o) (link_there there m slc low up))
    go false down = down ∙ sym (ap (λ (o : Option Link). is_some o) (link_absent there m slc low down))

-- ---- the links in a list

-- those of the first codes
unfoldable pub links_to : ℕ → MarkBits → ℕ → List Link
links_to there m n = filter (λ (link : Link). has_bit there link.slc) (map (link_in m) (range_with_len 0 n))

pub links_to_none : (there : ℕ) (m : MarkBits) → [] ≡ links_to there m 0
unfolding links_to
links_to_none there m = refl

pub links_to_all : (there : ℕ) (m : MarkBits) (n : ℕ) → n ≡ 16 → links_to there m n ≡ links_in there m
unfolding links_to links_in
links_to_all there m n e = rw e refl

pub links_to_few : (there : ℕ) (m : MarkBits) (n : ℕ) → length (links_to there m n) ≤ n
unfolding links_to
links_to_few there m n = few_among (λ (l : Link). has_bit there l.slc) (link_in m) (λ c. refl) 0 n

links_to_more : (there : ℕ) (m : MarkBits) (n : ℕ) → links_to there m (n + 1) ≡ links_to there m n ++ cond (has_bit there n) (link_in m n ∷ []) []
unfolding links_to
links_to_more there m n = filter_of_map_range_with_len_more (λ (link : Link). has_bit there link.slc) (link_in m) 0 n n (zero-add n)

pub links_to_with : (there : ℕ) (m : MarkBits) (n : ℕ) → has_bit there n ≡ true → links_to there m n ++ link_in m n ∷ [] ≡ links_to there m (n + 1)
links_to_with there m n up = sym (links_to_more there m n ∙ rw up refl)

pub links_to_without : (there : ℕ) (m : MarkBits) (n : ℕ) → has_bit there n ≡ false → links_to there m n ≡ links_to there m (n + 1)
links_to_without there m n down = sym (links_to_more there m n ∙ rw down (append-nil (links_to there m n)))
