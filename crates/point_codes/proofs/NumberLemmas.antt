-- Numbers in digits.
use Rattle.std.proofs.Common.{◌↔◌, ◌≡◌, ℕ, ◌+◌, ◌-◌, ◌*◌, ◌^◌, ◌<◌, ◌≤◌, true, false, List, [], ◌∷◌, length, take, get_or, Some, None, sym, ap, refl, ◌∙◌, arith, add-one, inl, inr, map}
use Rattle.std.proofs.Math.Nat.{pow-suc}
use Rattle.std.proofs.lemmas.Int.Digits.{first_digits_of, digits_value_more}
use Rattle.std.specs.Int.Digits.{digits_of}
use Rattle.std.proofs.lemmas.Fmt.{length-decimal-le, decimal_nonempty, digits_decimal, digits_value-decimal, decimal-digits_value, decimal_digit, decimal-digits_of}
use Rattle.std.proofs.lemmas.Bool.{cases_lt}
use Rattle.std.proofs.lemmas.Bool.Decides.{nat_tests}
use Rattle.std.proofs.lemmas.List.Folds.{list_all_more, list_all_at}
use Rattle.std.proofs.lemmas.Str.Parse.{IsNumeralModel, numerals_by_value, tells_all_ascii_digits}
use Rattle.std.specs.Char.{is_ascii_digit, digit_value}
use Rattle.std.specs.Fmt.{decimal}
use Rattle.std.specs.Str.{all_ascii_digits}
use Rattle.std.specs.Str.Parse.{digits_value}
use Rattle.point_codes.specs.Numbers.{number_of}

pub own : IsNumeralModel (λ ds. all_ascii_digits ds ≡ true) (digits_value 10)
own = numerals_by_value _ tells_all_ascii_digits

-- a byte that is no digit
pub no_digit : (most : ℕ) (text : List ℕ) (i : ℕ) → i < length text → is_ascii_digit (get_or text i 0) ≡ false → number_of most text ≡ None
no_digit most text i within other =
    let none : all_ascii_digits text ≡ false = list_all_at is_ascii_digit text i 0 within other in
    grind (arith, nat_tests)

-- one more digit
pub digits_more : (text : List ℕ) (i : ℕ) → i < length text → all_ascii_digits (take i text) ≡ true → is_ascii_digit (get_or text i 0) ≡ true → all_ascii_digits (take (i + 1) text) ≡ true
digits_more text i within so_far here = list_all_more is_ascii_digit text i 0 within ∙ rw (so_far, here) refl

pub digit : (c : ℕ) → is_ascii_digit c ≡ true → (digit_value c ≡ c - 48) × (c - 48 < 10)
digit c h = (grind (arith, nat_tests), grind (arith, nat_tests))

pub number_more : (text : List ℕ) (i v d : ℕ) → i < length text → v ≡ digits_value 10 (take i text) → is_ascii_digit (get_or text i 0) ≡ true → d ≡ get_or text i 0 - 48 → v * 10 + d ≡ digits_value 10 (take (i + 1) text)
number_more text i v d within so_far here e =
    let more = digits_value_more 10 text i within in
    let value = (digit (get_or text i 0) here).0 in
    omega arith

pub digit_below : (c d : ℕ) → is_ascii_digit c ≡ true → d ≡ c - 48 → d < 10
digit_below c d here e = let below = (digit c here).1 in omega arith

pub small_more : (v d i : ℕ) → v < 10 ^ i → d < 10 → v * 10 + d < 10 ^ (i + 1)
small_more v d i low below = rw (add-one, pow-suc) (omega arith)

-- ---- the tokens are what is written

first_of_map : (ds : List ℕ) → 0 < get_or ds 0 0 → get_or (map (λ d. 48 + d) ds) 0 0 ≡ 48 + get_or ds 0 0
first_of_map [] h = absurd (omega arith)
first_of_map (d ∷ ds) h = refl

-- a number's text begins with 0 only if it is 0
first_digit : (n : ℕ) → n < 2 ^ 64 → get_or (decimal n) 0 0 ≡ 48 → length (decimal n) ≡ 1
first_digit n small zero = elim (cases_lt 0 n) [
  | inl above ↦
      let first = first_digits_of 10 n (omega arith) above in
      let second : get_or (decimal n) 0 0 ≡ 48 + get_or (digits_of 10 n) 0 0 = ap (λ t. get_or t 0 0) (decimal-digits_of n above small) ∙ first_of_map (digits_of 10 n) first in
      absurd (omega arith)
  | inr none ↦ let same : n ≡ 0 = omega arith in ap (λ m. length (decimal m)) same ∙ ap length (decimal_digit 0 (omega arith))
]

number_true : (most : ℕ) (text : List ℕ) → 0 < length text → all_ascii_digits text ≡ true → (get_or text 0 0 ≡ 48 → length text ≡ 1) → length text < 11 → digits_value 10 text ≤ most → number_of most text ≡ Some (digits_value 10 text)
number_true most text some digits lead short within = grind (arith, nat_tests)

-- a number's text is a number's token
pub number_written : (most n : ℕ) → most < 2 ^ 32 → n ≤ most → number_of most (decimal n) ≡ Some n
number_written most n limit within =
    let value : digits_value 10 (decimal n) ≡ n = digits_value-decimal own n (omega arith) in
    number_true most (decimal n) (decimal_nonempty n (omega arith)) (digits_decimal own n (omega arith)) (first_digit n (omega arith))
    (let short = length-decimal-le 10 n (omega arith) (omega arith) (omega arith) in omega arith) (omega arith) ∙ ap Some value

number_parts : (most n : ℕ) (text : List ℕ) → number_of most text ≡ Some n
    → (0 < length text) × (all_ascii_digits text ≡ true) × (get_or text 0 0 ≡ 48 → length text ≡ 1) × (digits_value 10 text ≤ most) × (digits_value 10 text ≡ n)
number_parts most n text e = (grind (arith, nat_tests), grind (arith, nat_tests), λ h. grind (arith, nat_tests), grind (arith, nat_tests), grind (arith, nat_tests))

-- a number's token is its text
pub number_reads : (most n : ℕ) (text : List ℕ) → most < 2 ^ 32 → number_of most text ≡ Some n → (n ≤ most) × (text ≡ decimal n)
number_reads most n text limit e =
    let parts = number_parts most n text e in
    let value = parts.4 in
    (omega arith, sym (decimal-digits_value own text parts.1 parts.0 parts.2 (omega arith)) ∙ ap decimal value)

pub number_law : (most n : ℕ) (text : List ℕ) → most < 2 ^ 32 → (number_of most text ≡ Some n) ↔ ((n ≤ most) × (text ≡ decimal n))
number_law most n text limit = (number_reads most n text limit, λ h. ap (number_of most) h.1 ∙ number_written most n limit h.0)
