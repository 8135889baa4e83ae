use Rattle.excerpts.specs.Excerpt.{source_of}
use Rattle.transfer_state.specs.Complaints.{AreRightBefore}
use Rattle.transfer_state.proofs.complaints.check.Given as goal

-- the rows so far are right
abbrev pub invariant-loop-i : goal.invariant-loop-i
invariant-loop-i l = AreRightBefore (source_of l.e) l.table l.i
