-- Sequence numbers in digits.
use Rattle.std.proofs.Common.{◌≡◌, ◌↔◌, ℕ, ◌+◌, ◌-◌, ◌*◌, ◌^◌, ◌<◌, ◌≤◌, ◌&&◌, Bool, true, false, cond, nat_lt, List, length, take, get_or, Some, None, sym, ap, refl, ◌∙◌, arith, inl, inr}
use Rattle.std.proofs.lemmas.Bool.{cases_lt}
use Rattle.std.proofs.lemmas.Bool.Decides.{nat_tests}
use Rattle.std.proofs.lemmas.Fmt.{decimal_nonempty, decimal_digit, first_decimal, digits_decimal, digits_value-decimal, decimal-digits_value}
use Rattle.std.proofs.lemmas.List.{take_all}
use Rattle.std.proofs.lemmas.List.Folds.{list_all_at}
use Rattle.std.proofs.lemmas.Str.Parse.{digits_value-take-le}
use Rattle.std.specs.Char.{is_ascii_digit}
use Rattle.std.specs.Fmt.{decimal}
use Rattle.std.specs.Str.{all_ascii_digits}
use Rattle.std.specs.Str.Parse.{digits_value}
use Rattle.point_codes.proofs.NumberLemmas.{own, number_more}
use Rattle.script_words.specs.Numbers.{digits_in, sequence_of}

-- a byte that is no digit
pub no_digit : (text : List ℕ) (i : ℕ) → i < length text → is_ascii_digit (get_or text i 0) ≡ false → digits_in text ≡ None
no_digit text i within other =
    let none : all_ascii_digits text ≡ false = list_all_at is_ascii_digit text i 0 within other in
    rw none refl

none_by : (a b : Bool) (n : ℕ) → b ≡ false → cond (a && b) (Some n) None ≡ None
none_by true b n h = rw h refl
none_by false b n h = refl

-- digits that come to 2^64 before the end
too_large : (text : List ℕ) (i : ℕ) → 2 ^ 64 ≤ digits_value 10 (take i text) → digits_in text ≡ None
too_large text i large =
    let whole = digits_value-take-le 10 text i (omega arith) in
    let past : nat_lt (digits_value 10 text) (2 ^ 64) ≡ false = grind (arith, nat_tests) in
    none_by (all_ascii_digits text) (nat_lt (digits_value 10 text) (2 ^ 64)) (digits_value 10 text) past

not_below : (n m : ℕ) → (n < m → ⊥) → m ≤ n
not_below n m h = elim (cases_lt n m) [ inl below ↦ absurd (h below) | inr past ↦ past ]

-- one more digit is too large
pub digit_too_large : (text : List ℕ) (i v t d : ℕ) → i < length text → v ≡ digits_value 10 (take i text) → is_ascii_digit (get_or text i 0) ≡ true → t ≡ v * 10 → d ≡ get_or text i 0 - 48 → (t + d < 2 ^ 64 → ⊥) → digits_in text ≡ None
digit_too_large text i v t d within so_far here tens e large =
    let more = number_more text i v d within so_far here e in
    let past = not_below (t + d) (2 ^ 64) large in
    too_large text (i + 1) (omega arith)

-- ten times what was read is too large
pub tens_too_large : (text : List ℕ) (i v : ℕ) → i < length text → v ≡ digits_value 10 (take i text) → is_ascii_digit (get_or text i 0) ≡ true → (v * 10 < 2 ^ 64 → ⊥) → digits_in text ≡ None
tens_too_large text i v within so_far here large =
    digit_too_large text i v (v * 10) (get_or text i 0 - 48) within so_far here refl refl (λ h. large (omega arith))

-- all digits were read
pub all_read : (text : List ℕ) (i v : ℕ) → length text ≤ i → all_ascii_digits (take i text) ≡ true → v ≡ digits_value 10 (take i text) → v < 2 ^ 64 → digits_in text ≡ Some v
all_read text i v past digits number small =
    let whole : take i text ≡ text = take_all i text past in
    let all : all_ascii_digits text ≡ true = ap all_ascii_digits (sym whole) ∙ digits in
    let value : digits_value 10 text ≡ v = ap (digits_value 10) (sym whole) ∙ sym number in
    let low : nat_lt v (2 ^ 64) ≡ true = grind (arith, nat_tests) in
    rw (all, value, low) refl

-- ---- the tokens are what is written

first_digit : (n : ℕ) → n < 2 ^ 64 → get_or (decimal n) 0 0 ≡ 48 → length (decimal n) ≡ 1
first_digit n small zero = elim (cases_lt 0 n) [
  | inl above ↦ let first = first_decimal n above small in absurd (omega arith)
  | inr none ↦ let same : n ≡ 0 = omega arith in ap (λ m. length (decimal m)) same ∙ ap length (decimal_digit 0 (omega arith))
]

sequence_true : (text : List ℕ) → 0 < length text → all_ascii_digits text ≡ true → (get_or text 0 0 ≡ 48 → length text ≡ 1) → digits_value 10 text < 2 ^ 64 → sequence_of text ≡ Some (digits_value 10 text)
sequence_true text some digits lead small = grind (arith, nat_tests)

sequence_written : (n : ℕ) → n < 2 ^ 64 → sequence_of (decimal n) ≡ Some n
sequence_written n small =
    let value : digits_value 10 (decimal n) ≡ n = digits_value-decimal own n small in
    sequence_true (decimal n) (decimal_nonempty n small) (digits_decimal own n small) (first_digit n small) (omega arith) ∙ ap Some value

sequence_parts : (n : ℕ) (text : List ℕ) → sequence_of text ≡ Some n
    → (0 < length text) × (all_ascii_digits text ≡ true) × (get_or text 0 0 ≡ 48 → length text ≡ 1) × (digits_value 10 text < 2 ^ 64) × (digits_value 10 text ≡ n)
sequence_parts n text e = (grind (arith, nat_tests), grind (arith, nat_tests), λ h. grind (arith, nat_tests), grind (arith, nat_tests), grind (arith, nat_tests))

sequence_reads : (n : ℕ) (text : List ℕ) → sequence_of text ≡ Some n → (n < 2 ^ 64) × (text ≡ decimal n)
sequence_reads n text e =
    let parts = sequence_parts n text e in
    let small = parts.3 in
    let value = parts.4 in
    (omega arith, sym (decimal-digits_value own text parts.1 parts.0 parts.2 small) ∙ ap decimal value)

pub sequence_law : (n : ℕ) (text : List ℕ) → (sequence_of text ≡ Some n) ↔ ((n < 2 ^ 64) × (text ≡ decimal n))
sequence_law n text = (sequence_reads n text, λ h. ap sequence_of h.1 ∙ sequence_written n h.0)
