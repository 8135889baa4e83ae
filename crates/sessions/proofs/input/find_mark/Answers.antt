use Rattle.std.proofs.Common.{ap, sym, ◌∙◌, arith}
use Rattle.std.proofs.lemmas.Bool.Decides.{nat_tests}
use Rattle.sessions.specs.Input.{is_mark}
use Rattle.sessions.proofs.InputLemmas.{open_feed, open_byte, last_slice}
use Rattle.sessions.proofs.input.find_mark.Goals as goal
use Rattle.sessions.proofs.input.find_mark.Goals.{then-bytes-at-eq10+else-is_mark_line, else-bytes-at-eq10}

pub slice_bounds-is_mark_line-count : goal.slice_bounds-is_mark_line-count
slice_bounds-is_mark_line-count c = let ordered = c.loop-at.invariant.ordered in omega arith

pub loop-at-preserved : goal.loop-at-preserved
loop-at-preserved c = elim c.if-bytes-at-eq10.branch [
  | then-bytes-at-eq10+else-is_mark_line w ↦ rw w.line-is
      (open_feed c.args.bytes.now c.loop-at.line c.loop-at.at c.loop-at.invariant c.loop-at-test.true w.if-bytes-at-eq10.true
      (ap is_mark (sym (last_slice c.args.bytes.now c.loop-at.line c.loop-at.at c.loop-at.invariant)) ∙ sym w.is_mark_line.ensures ∙ w.if-is_mark_line.false))
  | else-bytes-at-eq10 w ↦ rw w.line-is
      (open_byte c.args.bytes.now c.loop-at.line c.loop-at.at c.loop-at.invariant c.loop-at-test.true (grind (arith, nat_tests)))
]

pub returns-then-is_mark_line-clause-some : goal.returns-then-is_mark_line-clause-some
returns-then-is_mark_line-clause-some c = record {
  open_at = c.loop-at.invariant;
  within = c.loop-at-test.true;
  feed = c.if-bytes-at-eq10.true;
  mark = ap is_mark (sym (last_slice c.args.bytes.now c.loop-at.line c.loop-at.at c.loop-at.invariant)) ∙ sym c.is_mark_line.ensures ∙ c.if-is_mark_line.true;
}
