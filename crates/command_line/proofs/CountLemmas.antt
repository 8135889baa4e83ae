-- Which texts say a number of workers.
use Rattle.std.proofs.Common.{◌≡◌, ℕ, ◌<◌, ◌≤◌, List, length, get_or, Result, Ok, sym, ap, subst, ◌∙◌, arith, inl, inr, length-drop}
use Rattle.std.specs.Fmt.{decimal}
use Rattle.std.specs.Str.Parse.{AllDigits, ParsesUnsigned, digits_value}
use Rattle.std.proofs.lemmas.Bool.{cases_eq, cases_lt}
use Rattle.std.proofs.lemmas.Fmt.{decimal_digit, decimal-digits_value, first_decimal, parse-decimal}
use Rattle.std.proofs.lemmas.Result.{OkIff-at_ok}
use Rattle.std.proofs.lemmas.Str.Parse.{IsNumeralModel, numerals_by_value, parse_plain, parse_plus, tells_digits}
use Rattle.command_line.specs.Words.{IsPadded}

own : IsNumeralModel (AllDigits 10) (digits_value 10)
own = numerals_by_value _ tells_digits

-- what is written of a number is not padded
pub written_plain : (text : List ℕ) (n : ℕ) → n ≤ 32 → text ≡ decimal n → ¬ (IsPadded text)
written_plain text n small is padded = elim (cases_lt 0 n) [
  | inl above ↦
      let first : 48 < get_or text 0 0 = subst (λ t. 48 < get_or t 0 0) (sym is) (first_decimal n above (omega arith)) in
      elim padded.1 [ inl plus ↦ omega arith | inr zero ↦ omega arith ]
  | inr none ↦
      let nothing : n ≡ 0 = omega arith in
      let one : length text ≡ 1 = ap length is ∙ ap (λ m. length (decimal m)) nothing ∙ ap length (decimal_digit 0 (omega arith)) in
      omega (arith, padded.0)
]

module _ {E : Type 0} (text : List ℕ) (r : Result ℕ E) (parsed : ParsesUnsigned 32 10 text r) where
  -- what is written of a number is parsed as that number
  pub written_parsed : (n : ℕ) → n ≤ 32 → text ≡ decimal n → r ≡ Ok n
  written_parsed n small is = parse-decimal 32 n text r (omega arith) (omega arith) is parsed

  -- what is parsed as a number and not padded is what is written of that number
  pub parsed_written : (n : ℕ) → r ≡ Ok n → ¬ (IsPadded text) → text ≡ decimal n
  parsed_written n is plain = elim (cases_eq (get_or text 0 0) 43) [
    | inl plus ↦
        let read = OkIff-at_ok r _ _ n (parse_plus own 32 text r parsed plus) is in
        let long : 1 < length text = omega (arith, read.0.1, length-drop 1 text) in
        absurd (plain (long, inl plus))
    | inr other ↦
        let read = OkIff-at_ok r _ _ n (parse_plain own 32 text r parsed other) is in
        let lead : get_or text 0 0 ≡ 48 → length text ≡ 1 = λ zero. elim (cases_lt 1 (length text)) [
          | inl long ↦ absurd (plain (long, inr zero))
          | inr short ↦ omega (arith, read.0.1)
        ] in
        sym (decimal-digits_value own text read.0.0 read.0.1 lead (omega (arith, read.0.2))) ∙ ap decimal (sym read.1)
  ]
