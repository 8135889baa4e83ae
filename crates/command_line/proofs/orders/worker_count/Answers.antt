use Rattle.std.proofs.Common.{◌≡◌, arith}
use Rattle.std.proofs.lemmas.Bool.{iff_false}
use Rattle.command_line.proofs.CountLemmas.{written_plain, written_parsed, parsed_written}
use Rattle.command_line.proofs.orders.worker_count.Goals as goal

pub returns-then-is_padded-clause-none : goal.returns-then-is_padded-clause-none
returns-then-is_padded-clause-none c = λ e n small is. written_plain c.args.text.now n small is (c.is_padded.ensures.0 c.if-is_padded.true)

pub returns-in-Ok-clause-some : goal.returns-in-Ok-clause-some
returns-in-Ok-clause-some c =
    let plain = iff_false c.is_padded.ensures c.if-is_padded.false in
    (parsed_written c.args.text.now c.parse.result c.parse.ensures.value.0 c.in-Ok.count c.in-Ok.is plain, c.if-count-le32.true)

pub returns-in_default-clause-none : goal.returns-in_default-clause-none
returns-in_default-clause-none c = λ e n small is.
    let back = written_parsed c.args.text.now c.parse.result c.parse.ensures.value.0 n small is in
    let same : c.in-Ok.count ≡ n = cc in omega arith

pub returns-in_default-2-clause-none : goal.returns-in_default-2-clause-none
returns-in_default-2-clause-none c = λ e n small is. let back = written_parsed c.args.text.now c.parse.result c.parse.ensures.value.0 n small is in cc
