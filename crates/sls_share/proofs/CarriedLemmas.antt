-- The links that carry the share numbers, told by two masks.
use Rattle.std.proofs.Common.{◌≡◌, ◌≢◌, ℕ, zero, suc, ◌+◌, ◌<◌, ◌≤◌, ◌/◌, ◌*◌, ◌%◌, ◌-◌, ◌^◌, List, [], ◌∷◌, Option, Some, None, All, map, cond, eqb, Bool, true, false, ◌||◌, refl, sym, ap, ◌∙◌, arith, inl, inr, subst, length, slice_get, get_or, take, zero-add}
use Rattle.std.specs.Prelude.{find, filter}
use Rattle.std.specs.Int.{bit_at, w16}
use Rattle.std.specs.Int.Count.{ones}
use Rattle.std.specs.Int.RustNames.{bit_or}
use Rattle.std.specs.List.{range_with_len, list_any, AllByRecursion}
use Rattle.std.specs.Option.{option_and_then, option_map, option_eq}
use mir.Val.{bits}
use Rattle.std.proofs.lemmas.Bool.{cases_eq, eqb-true, eq-eqb, ne_eqb}
use Rattle.std.proofs.lemmas.List.{length-map, same_lists, get_or_default}
use Rattle.std.proofs.lemmas.List.Folds.{list_any_more}
use Rattle.std.proofs.lemmas.List.FromFn.{get_or-map-range_with_len}
use Rattle.std.proofs.lemmas.Nat.{mod_below, ones_cat, pow-add}
use Rattle.std.proofs.lemmas.Nat.Bits.{bit_at-suc, bit_at_lowest, bit_at_set_same, bit_at_set_other}
use Rattle.std.proofs.lemmas.Option.{slice_get-map, slice_get_past, slice_get-get_or}
use Rattle.net_items.specs.Keyed.{IsRising}
use Rattle.net_items.specs.declared.links.Link.{Link}
use Rattle.net_items.specs.Links.{available_at, IsMask}
use Rattle.link_sets.proofs.ListLemmas.{map_same}
use Rattle.sls_share.specs.Share.{probe, position_for, link_for}
use Rattle.sls_share.specs.Carried.{codes_in, masked_position, code_for, codes_for, links_for, IsCodeMask}
use Rattle.sls_share.proofs.ShareLemmas.{find_first, find_nowhere}

-- ---- the first available place in the probe order

probe_within : (t n j : ℕ) → j < n → probe t n j < n
probe_within t n j low = go (eqb j 0)
  where
    go : (b : Bool) → cond b (t % n) ((t % n + 1 + (t / n + (j - 1)) % (n - 1)) % n) < n
    go true = mod_below t n (omega arith)
    go false = mod_below (t % n + 1 + (t / n + (j - 1)) % (n - 1)) n (omega arith)

-- tests that agree over a mapped range find the same
find_agree : (f : ℕ → ℕ) (p q : ℕ → Bool) (a n : ℕ) → ((k : ℕ) → a ≤ k → k < a + n → p (f k) ≡ q (f k)) → find p (map f (range_with_len a n)) ≡ find q (map f (range_with_len a n))
find_agree f p q a zero agree = refl
find_agree f p q a (suc n) agree =
    let here : p (f a) ≡ q (f a) = agree a (omega arith) (omega arith) in
    let later : find p (map f (range_with_len (a + 1) n)) ≡ find q (map f (range_with_len (a + 1) n)) = find_agree f p q (a + 1) n (λ k low high. agree k (omega arith) (omega arith)) in
    rw (here, later) refl

-- the mask of a set finds the position of its first available link
pub position_is : (links : List Link) (available t : ℕ) → length links ≤ 16 → IsMask links available → masked_position available (length links) t ≡ position_for links t
position_is links available t few mask =
    find_agree (probe t (length links)) (λ i. eqb (bit_at available i) 1) (available_at links) 0 (length links)
    (λ k low high. let within : probe t (length links) k < length links = probe_within t (length links) k (omega arith) in mask (probe t (length links) k) (omega arith))

-- the place at the first turn that is available, as a loop finds it
pub position_at : (available n t j i : ℕ) → ((k : ℕ) → k < j → eqb (bit_at available (probe t n k)) 1 ≡ false) → j < n → i ≡ probe t n j → bit_at available i ≡ 1 → Some i ≡ masked_position available n t
position_at available n t j i before low is up =
    let here : eqb (bit_at available (probe t n j)) 1 ≡ true = subst (λ p. eqb (bit_at available p) 1 ≡ true) is (eq-eqb (bit_at available i) 1 up) in
    ap Some is
    ∙ sym (find_first (probe t n) (λ i. eqb (bit_at available i) 1) 0 n j
    (λ k lt. subst (λ i. eqb (bit_at available (probe t n i)) 1 ≡ false) (sym (zero-add k)) (before k lt)) low
    (subst (λ i. eqb (bit_at available (probe t n i)) 1 ≡ true) (sym (zero-add j)) here)
    ∙ ap (λ i. Some (probe t n i)) (zero-add j))

pub position_nowhere : (available n t : ℕ) → ((k : ℕ) → k < n → eqb (bit_at available (probe t n k)) 1 ≡ false) → None ≡ masked_position available n t
position_nowhere available n t all = sym (find_nowhere (probe t n) (λ i. eqb (bit_at available i) 1) 0 n
    (λ k lt. subst (λ i. eqb (bit_at available (probe t n i)) 1 ≡ false) (sym (zero-add k)) (all k lt)))

-- ---- the codes of a mask

-- a number of k bits has as many ones as the bits of a range tell
ones_count : (k n a : ℕ) (p : ℕ → Bool) → n < 2 ^ k → ((i : ℕ) → i < k → p (a + i) ≡ eqb (bit_at n i) 1) → ones n ≡ length (filter p (range_with_len a k))
unfolding ones
ones_count zero n a p small tells = let none : n ≡ 0 = omega arith in ap ones none
ones_count (suc k) n a p small tells =
    let power : 2 ^ (k + 1) ≡ 2 ^ k * 2 = pow-add 2 k 1 in
    let split : ones (n / 2 * 2 ^ 1 + n % 2) ≡ ones (n / 2) + ones (n % 2) = ones_cat 1 (n / 2) (n % 2) (omega arith) in
    let whole : n / 2 * 2 ^ 1 + n % 2 ≡ n = omega arith in
    let start : a + 0 ≡ a = omega arith in
    let next : (i : ℕ) → a + suc i ≡ a + 1 + i = λ i. omega arith in
    let first : p a ≡ eqb (n % 2) 1 = ap p (sym start) ∙ tells 0 (omega arith) ∙ ap (λ b. eqb b 1) (bit_at_lowest n) in
    let rest : ones (n / 2) ≡ length (filter p (range_with_len (a + 1) k))
    = ones_count k (n / 2) (a + 1) p (omega arith) (λ i low. ap p (sym (next i)) ∙ tells (suc i) (omega arith) ∙ ap (λ b. eqb b 1) (bit_at-suc n i)) in
    ap ones (sym whole) ∙ split ∙ go (n % 2) first (mod_below n 2 (omega arith)) rest
  where
    go : (b : ℕ) → p a ≡ eqb b 1 → b < 2 → ones (n / 2) ≡ length (filter p (range_with_len (a + 1) k)) → ones (n / 2) + ones b ≡ length (filter p (range_with_len a (suc k)))
    go zero first low rest = rw first (omega (arith, rest))
    go (suc zero) first low rest = rw first (omega (arith, rest))
    go (suc (suc b)) first low rest = absurd (omega arith)

pub count_is : (mask : ℕ) → mask < 65536 → ones mask ≡ length (codes_in mask)
unfolding codes_in
count_is mask small = ones_count 16 mask 0 (λ c. eqb (bit_at mask c) 1) small (λ i low. ap (λ k. eqb (bit_at mask k) 1) (zero-add i))

-- one more of a range, by its length
passed_more : (p : ℕ → Bool) (a n : ℕ) → length (filter p (range_with_len a (suc n))) ≡ length (filter p (range_with_len a n)) + cond (p (a + n)) 1 0
passed_more p a zero = let start : a ≡ a + 0 = omega arith in subst (λ k. length (filter p (a ∷ [])) ≡ 0 + cond (p k) 1 0) start (go (p a) refl)
  where
    go : (b : Bool) → p a ≡ b → length (filter p (a ∷ [])) ≡ 0 + cond (p a) 1 0
    go true e = rw e refl
    go false e = rw e refl
passed_more p a (suc n) = go (p a) refl (passed_more p (a + 1) n)
  where
    next : a + suc n ≡ a + 1 + n
    next = omega arith

    go : (b : Bool) → p a ≡ b → length (filter p (range_with_len (a + 1) (suc n))) ≡ length (filter p (range_with_len (a + 1) n)) + cond (p (a + 1 + n)) 1 0
        → length (filter p (range_with_len a (suc (suc n)))) ≡ length (filter p (range_with_len a (suc n))) + cond (p (a + suc n)) 1 0
    go true e rec = rw (e, next) (omega (arith, rec))
    go false e rec = rw (e, next) rec

abbrev passed : ℕ → ℕ → ℕ
passed mask code = length (filter (λ c. eqb (bit_at mask c) 1) (range_with_len 0 code))

passed_next : (mask code : ℕ) → passed mask (code + 1) ≡ passed mask code + cond (eqb (bit_at mask code) 1) 1 0
passed_next mask code =
    let one : code + 1 ≡ suc code = omega arith in
    ap (passed mask) one ∙ passed_more (λ c. eqb (bit_at mask c) 1) 0 code ∙ ap (λ k. passed mask code + cond (eqb (bit_at mask k) 1) 1 0) (zero-add code)

pub passed_one : (mask code : ℕ) → bit_at mask code ≡ 1 → passed mask code + 1 ≡ passed mask (code + 1)
passed_one mask code up = sym (passed_next mask code ∙ ap (λ b. passed mask code + cond b 1 0) (eq-eqb (bit_at mask code) 1 up))

pub passed_none : (mask code : ℕ) → bit_at mask code ≢ 1 → passed mask code ≡ passed mask (code + 1)
passed_none mask code down = sym (passed_next mask code ∙ ap (λ b. passed mask code + cond b 1 0) (ne_eqb (bit_at mask code) 1 down) ∙ omega arith)

-- what passes in a range stands in the place that counts those before it
passed_there : (p : ℕ → Bool) (a n j : ℕ) → j < n → p (a + j) ≡ true → slice_get (filter p (range_with_len a n)) (length (filter p (range_with_len a j))) ≡ Some (a + j)
passed_there p a zero j low up = absurd (omega arith)
passed_there p a (suc n) zero low up =
    let start : a + 0 ≡ a = omega arith in
    let here : p a ≡ true = subst (λ k. p k ≡ true) start up in
    rw here (ap Some (sym start))
passed_there p a (suc n) (suc j) low up =
    let next : a + suc j ≡ a + 1 + j = omega arith in
    go (p a) refl (passed_there p (a + 1) n j (omega arith) (subst (λ k. p k ≡ true) next up) ∙ ap Some (sym next))
  where
    go : (b : Bool) → p a ≡ b → slice_get (filter p (range_with_len (a + 1) n)) (length (filter p (range_with_len (a + 1) j))) ≡ Some (a + suc j)
        → slice_get (filter p (range_with_len a (suc n))) (length (filter p (range_with_len a (suc j)))) ≡ Some (a + suc j)
    go true e rec = rw e rec
    go false e rec = rw e rec

pub code_there : (mask code position : ℕ) → code < 16 → bit_at mask code ≡ 1 → position ≡ passed mask code → Some code ≡ slice_get (codes_in mask) position
unfolding codes_in
code_there mask code position low up is =
    let here : eqb (bit_at mask (0 + code)) 1 ≡ true = ap (λ k. eqb (bit_at mask k) 1) (zero-add code) ∙ eq-eqb (bit_at mask code) 1 up in
    sym (ap (slice_get (codes_in mask)) is ∙ passed_there (λ c. eqb (bit_at mask c) 1) 0 16 code low here ∙ ap Some (zero-add code))

pub code_past : (mask code position : ℕ) → code ≡ 16 → passed mask code ≤ position → None ≡ slice_get (codes_in mask) position
unfolding codes_in
code_past mask code position all past = sym (slice_get_past (codes_in mask) position (subst (λ n. passed mask n ≤ position) all past))

-- ---- the codes of a set

-- one link more has its bit
pub code_set : (links : List Link) (mask i : ℕ) (d : Link) → i < length links → (get_or links i d).slc < 16 → IsCodeMask (take i links) mask → IsCodeMask (take (i + 1) links) (bit_or mask (1 * 2 ^ (get_or links i d).slc % 2 ^ bits w16))
code_set links mask i d within small so_far c low = elim (cases_eq c k) [ inl e ↦ same e | inr ne ↦ other ne ]
  where
    k : ℕ
    k = (get_or links i d).slc

    more : list_any (λ (link : Link). eqb link.slc c) (take (i + 1) links) ≡ (list_any (λ (link : Link). eqb link.slc c) (take i links) || eqb (get_or links i d).slc c)
    more = list_any_more (λ (link : Link). eqb link.slc c) links i d within

    true_last : (b : Bool) → true ≡ (b || true)
    true_last true = refl
    true_last false = refl

    false_last : (b : Bool) → b ≡ (b || false)
    false_last true = refl
    false_last false = refl

    same : c ≡ (get_or links i d).slc → eqb (bit_at (bit_or mask (1 * 2 ^ (get_or links i d).slc % 2 ^ bits w16)) c) 1 ≡ list_any (λ (link : Link). eqb link.slc c) (take (i + 1) links)
    same e =
        let last : eqb (get_or links i d).slc c ≡ true = eq-eqb (get_or links i d).slc c (sym e) in
        let set : bit_at (bit_or mask (1 * 2 ^ (get_or links i d).slc % 2 ^ bits w16)) c ≡ 1 = ap (bit_at (bit_or mask (1 * 2 ^ (get_or links i d).slc % 2 ^ bits w16))) e ∙ bit_at_set_same w16 mask (get_or links i d).slc small in
        eq-eqb _ 1 set ∙ true_last (list_any (λ (link : Link). eqb link.slc c) (take i links)) ∙ ap (λ b. list_any (λ (link : Link). eqb link.slc c) (take i links) || b) (sym last) ∙ sym more

    other : c ≢ (get_or links i d).slc → eqb (bit_at (bit_or mask (1 * 2 ^ (get_or links i d).slc % 2 ^ bits w16)) c) 1 ≡ list_any (λ (link : Link). eqb link.slc c) (take (i + 1) links)
    other ne =
        let last : eqb (get_or links i d).slc c ≡ false = ne_eqb (get_or links i d).slc c (λ e. ne (sym e)) in
        ap (λ b. eqb b 1) (bit_at_set_other w16 mask (get_or links i d).slc small c ne) ∙ so_far c low
        ∙ false_last (list_any (λ (link : Link). eqb link.slc c) (take i links)) ∙ ap (λ b. list_any (λ (link : Link). eqb link.slc c) (take i links) || b) (sym last) ∙ sym more

none_above : (links : List Link) (a : ℕ) → AllByRecursion (λ (link : Link). a < link.slc) links → list_any (λ (link : Link). eqb link.slc a) links ≡ false
none_above [] a above = refl
none_above (l ∷ ls) a above =
    let here : eqb l.slc a ≡ false = ne_eqb l.slc a (λ e. omega (arith, above.0, e)) in rw here (none_above ls a above.1)

above_from : (links : List Link) (a b : ℕ) → a ≤ b → AllByRecursion (λ (link : Link). b < link.slc) links → AllByRecursion (λ (link : Link). a < link.slc) links
above_from [] a b le above = tt
above_from (l ∷ ls) a b le above = (omega (arith, above.0), above_from ls a b le above.1)

up_to : (links : List Link) (a n : ℕ) → AllByRecursion (λ (link : Link). link.slc < a + suc n) links → AllByRecursion (λ (link : Link). link.slc < a + 1 + n) links
up_to [] a n all = tt
up_to (x ∷ xs) a n all = (omega (arith, all.0), up_to xs a n all.1)

from : (links : List Link) (a : ℕ) → AllByRecursion (λ (link : Link). a < link.slc) links → AllByRecursion (λ (link : Link). a + 1 < suc link.slc) links
from [] a all = tt
from (x ∷ xs) a all = (omega (arith, all.0), from xs a all.1)

-- the codes of a range that rising links have are theirs
codes_are : (links : List Link) (p : ℕ → Bool) (a n : ℕ) → IsRising (λ (link : Link). link.slc) links → AllByRecursion (λ (link : Link). a < suc link.slc) links → AllByRecursion (λ (link : Link). link.slc < a + n) links
    → ((c : ℕ) → a ≤ c → c < a + n → p c ≡ list_any (λ (link : Link). eqb link.slc c) links) → filter p (range_with_len a n) ≡ map (λ (link : Link). link.slc) links
codes_are [] p a zero rising low high tells = refl
codes_are (l ∷ ls) p a zero rising low high tells = absurd (omega (arith, low.0, high.0))
codes_are [] p a (suc n) rising low high tells =
    let here : p a ≡ false = tells a (omega arith) (omega arith) in
    rw here (codes_are [] p (a + 1) n tt tt tt (λ c above below. tells c (omega arith) (omega arith)))
codes_are (l ∷ ls) p a (suc n) rising low high tells = elim (cases_eq l.slc a) [
  | inl e ↦
      let head : eqb l.slc a ≡ true = eq-eqb l.slc a e in
      let here : p a ≡ true = tells a (omega arith) (omega arith) ∙ ap (λ b. b || list_any (λ (link : Link). eqb link.slc a) ls) head in
      let rest : filter p (range_with_len (a + 1) n) ≡ map (λ (link : Link). link.slc) ls
      = codes_are ls p (a + 1) n rising.1 (from ls a (above_from ls a l.slc (omega (arith, e)) rising.0)) (up_to ls a n high.1)
      (λ c above below. let past : eqb l.slc c ≡ false = ne_eqb l.slc c (λ same. omega (arith, e, same, above)) in
      tells c (omega arith) (omega arith) ∙ ap (λ b. b || list_any (λ (link : Link). eqb link.slc c) ls) past) in
      rw here (ap (λ (cs : List ℕ). a ∷ cs) rest ∙ ap (λ k. k ∷ map (λ (link : Link). link.slc) ls) (sym e))
  | inr ne ↦
      let over : a < l.slc = omega (arith, low.0, ne) in
      let all : AllByRecursion (λ (link : Link). a < link.slc) (l ∷ ls) = (over, above_from ls a l.slc (omega (arith, over)) rising.0) in
      let here : p a ≡ false = tells a (omega arith) (omega arith) ∙ none_above (l ∷ ls) a all in
      rw here (codes_are (l ∷ ls) p (a + 1) n rising (from (l ∷ ls) a all) (up_to (l ∷ ls) a n high) (λ c above below. tells c (omega arith) (omega arith)))
]

-- ---- the codes that carry the share numbers

-- the codes and the mask of a set tell its link for a share number
code_is : (links : List Link) (available t : ℕ) → length links ≤ 16 → IsMask links available → code_for (map (λ (link : Link). link.slc) links) available t ≡ link_for links t
code_is links available t few mask =
    ap (λ n. option_and_then (slice_get (map (λ (link : Link). link.slc) links)) (masked_position available n t)) (length-map links (λ (link : Link). link.slc))
    ∙ ap (option_and_then (slice_get (map (λ (link : Link). link.slc) links))) (position_is links available t few mask)
    ∙ go (position_for links t)
  where
    go : (o : Option ℕ) → option_and_then (slice_get (map (λ (link : Link). link.slc) links)) o ≡ option_and_then (λ i. option_map (λ (link : Link). link.slc) (slice_get links i)) o
    go None = refl
    go (Some i) = slice_get-map (λ (link : Link). link.slc) links i

pub all_from : (links : List Link) → All (λ (link : Link). link.slc < 16) links → AllByRecursion (λ (link : Link). link.slc < 16) links
all_from [] all = tt
all_from (l ∷ ls) all = (all 0 l (omega arith), all_from ls (λ k d low. all (suc k) d (omega arith)))

-- the two masks of a set tell its links for the share numbers
pub carried_is : (links : List Link) (codes available : ℕ) → length links ≤ 16 → IsRising (λ (link : Link). link.slc) links → All (λ (link : Link). link.slc < 16) links
    → IsCodeMask links codes → IsMask links available → codes_for (codes_in codes) available ≡ links_for links
unfolding codes_in codes_for links_for
carried_is links codes available few rising small told mask =
    let are : codes_in codes ≡ map (λ (link : Link). link.slc) links
    = codes_are links (λ c. eqb (bit_at codes c) 1) 0 16 rising (from_zero links) (all_from links small) (λ c above below. told c below) in
    ap (λ (cs : List ℕ). codes_for cs available) are ∙ map_same (code_for (map (λ (link : Link). link.slc) links) available) (link_for links) (range_with_len 0 16) (λ k d low. code_is links available _ few mask)
  where
    from_zero : (links : List Link) → AllByRecursion (λ (link : Link). 0 < suc link.slc) links
    from_zero [] = tt
    from_zero (x ∷ xs) = (omega arith, from_zero xs)

-- the answer for one share number
pub code_of_share : (codes : List ℕ) (available t : ℕ) → t < 16 → get_or (codes_for codes available) t None ≡ code_for codes available t
unfolding codes_for
code_of_share codes available t low = get_or-map-range_with_len (code_for codes available) 0 16 t t None low (zero-add t)

pub code_found : (codes : List ℕ) (available t n position : ℕ) (code : Option ℕ) → n ≡ length codes → Some position ≡ masked_position available n t → code ≡ slice_get codes position → code ≡ code_for codes available t
code_found codes available t n position code count found is =
    let at : masked_position available (length codes) t ≡ Some position = ap (λ k. masked_position available k t) (sym count) ∙ sym found in
    is ∙ ap (option_and_then (slice_get codes)) (sym at)

pub code_missing : (codes : List ℕ) (available t n : ℕ) → n ≡ length codes → None ≡ masked_position available n t → None ≡ code_for codes available t
code_missing codes available t n count found =
    let at : masked_position available (length codes) t ≡ None = ap (λ k. masked_position available k t) (sym count) ∙ sym found in
    ap (option_and_then (slice_get codes)) (sym at)

pub length-codes_for : (codes : List ℕ) (available : ℕ) → length (codes_for codes available) ≡ 16
unfolding codes_for
length-codes_for codes available = refl

-- the link of a set for one share number
pub link_of_share : (links : List Link) (t : ℕ) → t < 16 → get_or (links_for links) t None ≡ link_for links t
unfolding links_for
link_of_share links t low = get_or-map-range_with_len (link_for links) 0 16 t t None low (zero-add t)

-- sixteen answers that are equal one by one
pub same_answers : (xs ys : List (Option ℕ)) → length xs ≡ 16 → length ys ≡ 16 → ((k : ℕ) → k < 16 → get_or xs k None ≡ get_or ys k None) → xs ≡ ys
same_answers xs ys sixteen also each =
    same_lists xs ys (sixteen ∙ sym also)
    (λ k d low. get_or_default xs k d None low ∙ each k (omega (arith, low, sixteen)) ∙ sym (get_or_default ys k d None (omega (arith, low, sixteen, also))))

-- options of numbers that compare equal are equal
pub same_option : (a b : Option ℕ) → option_eq eqb a b ≡ true → a ≡ b
same_option None None e = refl
same_option None (Some b) e = cc
same_option (Some a) None e = cc
same_option (Some a) (Some b) e = ap Some (eqb-true a b e)
