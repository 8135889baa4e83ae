-- Codes in text.
use Rattle.std.proofs.Common.{◌≡◌, ◌↔◌, ℕ, ◌+◌, ◌*◌, ◌/◌, ◌%◌, ◌^◌, ◌<◌, ◌≤◌, ◌==◌, ◌&&◌, not, Bool, true, false, cond, ltb, List, [], ◌∷◌, ◌++◌, length, take, drop, get_or, Option, Some, None, option_map, option_and_then, sym, ap, refl, ◌∙◌, arith, append_assoc, length-append}
use Rattle.std.proofs.Math.Seq.{take-append_seam, drop-append-add}
use Rattle.std.proofs.lemmas.Bool.{and_parts, eqb-true, ltb-true}
use Rattle.std.proofs.lemmas.Bool.Decides.{nat_tests}
use Rattle.std.proofs.lemmas.List.Sums.{split_at_first, passes_at_first}
use Rattle.std.proofs.lemmas.Fmt.{digits_decimal}
use Rattle.std.specs.Char.{is_ascii_digit}
use Rattle.std.specs.List.{list_all, position_or_len}
use Rattle.std.specs.Fmt.{decimal}
use Rattle.std.specs.Str.{all_ascii_digits}
use Rattle.point_codes.specs.Numbers.{number_of}
use Rattle.point_codes.specs.Codes.{split_of, code_of, code_text}
use Rattle.point_codes.proofs.NumberLemmas.{own, number_reads, number_written}

-- ---- options

pub and_then_Some : {A B : Type 0} (o : Option A) (f : A → Option B) (y : B) → option_and_then f o ≡ Some y → (x : A) × (o ≡ Some x) × (f x ≡ Some y)
and_then_Some None f y e = absurd (cc)
and_then_Some (Some x) f y e = (x, refl, e)

pub map_Some : {A B : Type 0} (o : Option A) (f : A → B) (y : B) → option_map f o ≡ Some y → (x : A) × (o ≡ Some x) × (f x ≡ y)
map_Some None f y e = absurd (cc)
map_Some (Some x) f y e = (x, refl, cc)

pub cond_Some : {A : Type 0} (b : Bool) (x y : A) → cond b (Some x) None ≡ Some y → (b ≡ true) × (x ≡ y)
cond_Some true x y e = (refl, cc)
cond_Some false x y e = absurd (cc)

-- ---- splitting

abbrev pub lacks : ℕ → List ℕ → Bool
lacks c text = list_all (λ b. not (b == c)) text

pub lacks_parts : (b c : ℕ) → not (b == c) ≡ true → (b == c) ≡ false
lacks_parts b c h = grind (arith, nat_tests)

pub place_here : (c : ℕ) (a rest : List ℕ) → lacks c a ≡ true → position_or_len (λ b. b == c) (a ++ c ∷ rest) ≡ length a
place_here c [] rest h = let same : (c == c) ≡ true = grind (arith, nat_tests) in rw same refl
place_here c (b ∷ bs) rest h =
    let parts = and_parts (not (b == c)) (lacks c bs) h in
    let other = lacks_parts b c parts.0 in
    let more = place_here c bs rest parts.1 in
    rw other (omega arith)

pub split_here : (c : ℕ) (a rest : List ℕ) → lacks c a ≡ true → split_of c (a ++ c ∷ rest) ≡ Some (a, rest)
split_here c a rest h =
    let place = place_here c a rest h in
    let size = length-append a (c ∷ rest) in
    let within : ltb (length a) (length (a ++ c ∷ rest)) ≡ true = grind (arith, nat_tests) in
    let front : take (length a) (a ++ c ∷ rest) ≡ a = take-append_seam a (c ∷ rest) in
    let back : drop (length a + 1) (a ++ c ∷ rest) ≡ rest = drop-append-add a (c ∷ rest) 1 in
    at_place (length a) (position_or_len (λ b. b == c) (a ++ c ∷ rest)) (a ++ c ∷ rest) a rest place within front back
  where
    at_place : (n m : ℕ) (text front back : List ℕ) → m ≡ n → ltb n (length text) ≡ true → take n text ≡ front → drop (n + 1) text ≡ back
        → option_map {U = List ℕ × List ℕ} (λ i. (take i text, drop (i + 1) text)) (cond (ltb m (length text)) (Some m) None) ≡ Some (front, back)
    at_place n m text front back e within first second = rw (e, within, first, second) refl

pub same_pair : {A : Type 0} (x y : A) → Some x ≡ Some y → x ≡ y
same_pair x y e = cc

pub parts_at : (text a b : List ℕ) (v : Bool) (n : ℕ) → option_map {U = List ℕ × List ℕ} (λ i. (take i text, drop (i + 1) text)) (cond v (Some n) None) ≡ Some (a, b) → (v ≡ true) × (take n text ≡ a) × (drop (n + 1) text ≡ b)
parts_at text a b true n e =
    let here : List ℕ × List ℕ = (take n text, drop (n + 1) text) in
    let there : List ℕ × List ℕ = (a, b) in
    let pair : here ≡ there = same_pair here there e in
    (refl, ap (λ (p : List ℕ × List ℕ). p.0) pair, ap (λ (p : List ℕ × List ℕ). p.1) pair)
parts_at text a b false n e = absurd (cc)

pub split_parts : (c : ℕ) (text a b : List ℕ) → split_of c text ≡ Some (a, b) → text ≡ a ++ c ∷ b
split_parts c text a b e =
    let n = position_or_len (λ x. x == c) text in
    let parts = parts_at text a b (ltb n (length text)) n e in
    let within : n < length text = ltb-true n (length text) parts.0 in
    let here : get_or text n 0 ≡ c = eqb-true (get_or text n 0) c (passes_at_first (λ x. x == c) text 0 within) in
    split_at_first (λ x. x == c) text 0 within
    ∙ ap (λ t. t ++ (get_or text n 0 ∷ drop (n + 1) text)) parts.1 ∙ ap (λ t. a ++ (get_or text n 0 ∷ t)) parts.2 ∙ ap (λ x. a ++ (x ∷ b)) here

-- ---- codes

digit_is_other : (d : ℕ) → is_ascii_digit d ≡ true → not (d == 45) ≡ true
digit_is_other d h = grind (arith, nat_tests)

pub both : (a b : Bool) → a ≡ true → b ≡ true → (a && b) ≡ true
both a b p q = rw (p, q) refl

digits_lack : (ds : List ℕ) → all_ascii_digits ds ≡ true → lacks 45 ds ≡ true
digits_lack [] h = refl
digits_lack (d ∷ ds) h =
    let parts = and_parts (is_ascii_digit d) (all_ascii_digits ds) h in
    both _ _ (digit_is_other d parts.0) (digits_lack ds parts.1)

pub decimal_lacks : (n : ℕ) → n < 2 ^ 64 → lacks 45 (decimal n) ≡ true
decimal_lacks n small = digits_lack (decimal n) (digits_decimal own n small)

pub code_text_parts : (n : ℕ) → code_text n ≡ decimal (n / 2048) ++ (45 ∷ (decimal (n / 8 % 256) ++ (45 ∷ decimal (n % 8))))
code_text_parts n = append_assoc (decimal (n / 2048)) (45 ∷ decimal (n / 8 % 256)) (45 ∷ decimal (n % 8))

code_at : (z a p : ℕ) (text zone rest area point : List ℕ) → split_of 45 text ≡ Some (zone, rest) → split_of 45 rest ≡ Some (area, point)
    → number_of 7 zone ≡ Some z → number_of 255 area ≡ Some a → number_of 7 point ≡ Some p → code_of text ≡ Some (z * 2048 + a * 8 + p)
code_at z a p text zone rest area point first second zs as_ ps = rw (first, second, zs, as_, ps) refl

pub code_written : (n : ℕ) → n < 16384 → code_of (code_text n) ≡ Some n
code_written n small =
    let z = n / 2048 in
    let a = n / 8 % 256 in
    let p = n % 8 in
    let rest = decimal a ++ (45 ∷ decimal p) in
    let whole : z * 2048 + a * 8 + p ≡ n = omega arith in
    ap code_of (code_text_parts n)
    ∙ code_at z a p (decimal z ++ (45 ∷ rest)) (decimal z) rest (decimal a) (decimal p)
    (split_here 45 (decimal z) rest (decimal_lacks z (omega arith))) (split_here 45 (decimal a) (decimal p) (decimal_lacks a (omega arith)))
    (number_written 7 z (omega arith) (omega arith)) (number_written 255 a (omega arith) (omega arith)) (number_written 7 p (omega arith) (omega arith))
    ∙ ap Some whole

text_of_parts : (z a p n : ℕ) → z ≤ 7 → a ≤ 255 → p ≤ 7 → z * 2048 + a * 8 + p ≡ n → (n / 2048 ≡ z) × (n / 8 % 256 ≡ a) × (n % 8 ≡ p)
text_of_parts z a p n hz ha hp e = (omega arith, omega arith, omega arith)

pub code_from : (n z a p : ℕ) (text zone rest area point : List ℕ) → text ≡ zone ++ 45 ∷ rest → rest ≡ area ++ 45 ∷ point
    → (z ≤ 7) × (zone ≡ decimal z) → (a ≤ 255) × (area ≡ decimal a) → (p ≤ 7) × (point ≡ decimal p) → z * 2048 + a * 8 + p ≡ n → (n < 16384) × (text ≡ code_text n)
code_from n z a p text zone rest area point first second zs as_ ps whole =
    let back = text_of_parts z a p n zs.0 as_.0 ps.0 whole in
    let hz = zs.0 in
    let ha = as_.0 in
    let hp = ps.0 in (
      omega arith,
      first ∙ ap (λ t. zone ++ (45 ∷ t)) second ∙ ap (λ t. t ++ (45 ∷ (area ++ (45 ∷ point)))) zs.1 ∙ ap (λ t. decimal z ++ (45 ∷ (t ++ (45 ∷ point)))) as_.1 ∙ ap (λ t. decimal z ++ (45 ∷ (decimal a ++ (45 ∷ t)))) ps.1
          ∙ ap (λ m. decimal m ++ (45 ∷ (decimal a ++ (45 ∷ decimal p)))) (sym back.0) ∙ ap (λ m. decimal (n / 2048) ++ (45 ∷ (decimal m ++ (45 ∷ decimal p)))) (sym back.1)
          ∙ ap (λ m. decimal (n / 2048) ++ (45 ∷ (decimal (n / 8 % 256) ++ (45 ∷ decimal m)))) (sym back.2) ∙ sym (code_text_parts n),
    )

pub code_reads : (n : ℕ) (text : List ℕ) → code_of text ≡ Some n → (n < 16384) × (text ≡ code_text n)
code_reads n text e =
    let first = and_then_Some (split_of 45 text) _ n e in
    let second = and_then_Some (split_of 45 first.0.1) _ n first.2 in
    let third = and_then_Some (number_of 7 first.0.0) _ n second.2 in
    let fourth = and_then_Some (number_of 255 second.0.0) _ n third.2 in
    let fifth = map_Some (number_of 7 second.0.1) _ n fourth.2 in
    code_from n third.0 fourth.0 fifth.0 text first.0.0 first.0.1 second.0.0 second.0.1
    (split_parts 45 text first.0.0 first.0.1 first.1) (split_parts 45 first.0.1 second.0.0 second.0.1 second.1)
    (number_reads 7 third.0 first.0.0 (omega arith) third.1) (number_reads 255 fourth.0 second.0.0 (omega arith) fourth.1) (number_reads 7 fifth.0 second.0.1 (omega arith) fifth.1) fifth.2

pub code_law : (n : ℕ) (text : List ℕ) → (code_of text ≡ Some n) ↔ ((n < 16384) × (text ≡ code_text n))
code_law n text = (code_reads n text, λ h. ap code_of h.1 ∙ code_written n h.0)
