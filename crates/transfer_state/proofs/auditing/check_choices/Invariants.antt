use Rattle.excerpts.specs.Excerpt.{source_of}
use Rattle.transfer_state.specs.Complaints.{kept_table, AreRightBefore}
use Rattle.transfer_state.proofs.auditing.check_choices.Given as goal

-- the rows so far are right
abbrev pub invariant-loop-i : goal.invariant-loop-i
invariant-loop-i l = AreRightBefore (source_of l.e) (kept_table (source_of l.e) l.kept) l.i
