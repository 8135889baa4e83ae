use Rattle.std.proofs.Common.{get_or, sym, rules}
use Rattle.point_codes.proofs.NumberLemmas.{no_digit, digits_more, number_more, small_more, digit_below}
use Rattle.point_codes.proofs.numbers.read_number.Goals as goal

pub returns-then-not-is_ascii_digit : goal.returns-then-not-is_ascii_digit
returns-then-not-is_ascii_digit c = sym (no_digit c.args.most c.args.text.now c.loop-byte.byte-index (search rules) (search rules))

pub loop-byte-preserved : goal.loop-byte-preserved
loop-byte-preserved c = record {
  digits = digits_more c.args.text.now c.loop-byte.byte-index (search rules) c.loop-byte.invariant.digits (search rules);
  number = number_more c.args.text.now c.loop-byte.byte-index c.loop-byte.value c.from.result (search rules) c.loop-byte.invariant.number (search rules) c.from.ensures;
  small = small_more c.loop-byte.value c.from.result c.loop-byte.byte-index c.loop-byte.invariant.small
      (digit_below (get_or c.args.text.now c.loop-byte.byte-index 0) c.from.result (search rules) c.from.ensures);
}
