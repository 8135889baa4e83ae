use Rattle.tokens.proofs.RowLemmas.{plain_row}
use Rattle.tokens.proofs.rows.read_plain_row.Goals as goal

pub returns : goal.returns
returns c =
    plain_row _ c.args.text.now c.in-Some.head.2.now c.in-Some-2.rest.now c.in-Some.ensures.code c.in-Some.ensures.rank (rw c.in-Some-2.is at c.in_ok-classes.ensures.classes) c.in-Some.ensures.text (rw c.in-Some-2.is at c.in_ok-classes.ensures.text) c.in-Some-read_end.ensures
