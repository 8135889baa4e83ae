use Rattle.excerpts.specs.Excerpt.{source_of}
use Rattle.transfer_state.proofs.SweepLemmas.{IsSwept}
use Rattle.transfer_state.proofs.sweep.sweep_rank.Given as goal

abbrev pub invariant-loop-i : goal.invariant-loop-i
invariant-loop-i l = IsSwept (source_of l.e) l.choices l.fars l.rank l.i
