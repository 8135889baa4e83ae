use Rattle.excerpts.specs.Excerpt.{source_of}
use Rattle.transfer_state.specs.Told.{TellsKept}
use Rattle.transfer_state.proofs.auditing.tell_kept.Given as goal

-- the statuses of the rows so far are told
abbrev pub invariant-loop-i : goal.invariant-loop-i
invariant-loop-i l = TellsKept (source_of l.e) l.kept l.fars l.i
