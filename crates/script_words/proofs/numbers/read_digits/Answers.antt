use Rattle.std.proofs.Common.{◌+◌, ap, sym, rules, ◌∙◌}
use Rattle.point_codes.proofs.NumberLemmas.{digits_more, number_more}
use Rattle.script_words.proofs.NumberLemmas.{no_digit, tens_too_large, digit_too_large, all_read}
use Rattle.script_words.proofs.numbers.read_digits.Goals as goal

pub returns-then-not-is_ascii_digit : goal.returns-then-not-is_ascii_digit
returns-then-not-is_ascii_digit c = sym (no_digit c.args.text.now c.loop-byte.byte-index (search rules) (search rules))

pub returns-in_err-tens : goal.returns-in_err-tens
returns-in_err-tens c =
    c.from_residual.ensures
    ∙ sym (tens_too_large c.args.text.now c.loop-byte.byte-index c.loop-byte.value (search rules) c.loop-byte.invariant.number (search rules) c.in_err-tens.ensures)

pub returns-in_err-value : goal.returns-in_err-value
returns-in_err-value c =
    c.from_residual-in_err-value.ensures
    ∙ sym (digit_too_large c.args.text.now c.loop-byte.byte-index c.loop-byte.value c.in_ok-tens.tens c.from.result (search rules) c.loop-byte.invariant.number (search rules) (c.in_ok-tens.ensures.1) c.from.ensures c.in_err-value.ensures)

pub loop-byte-preserved : goal.loop-byte-preserved
loop-byte-preserved c = record {
  digits = digits_more c.args.text.now c.loop-byte.byte-index (search rules) c.loop-byte.invariant.digits (search rules);
  number = c.in_ok-value.ensures.1 ∙ ap (λ t. t + c.from.result) (c.in_ok-tens.ensures.1)
      ∙ number_more c.args.text.now c.loop-byte.byte-index c.loop-byte.value c.from.result (search rules) c.loop-byte.invariant.number (search rules) c.from.ensures;
  small = search rules;
}

pub returns : goal.returns
returns c = sym (all_read c.args.text.now c.loop-byte.byte-index c.loop-byte.value (search rules) c.loop-byte.invariant.digits c.loop-byte.invariant.number c.loop-byte.invariant.small)
