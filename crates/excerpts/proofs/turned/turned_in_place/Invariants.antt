use Rattle.excerpts.proofs.TurnedLemmas.{TellFrom}
use Rattle.excerpts.proofs.turned.turned_in_place.Given as goal

abbrev pub invariant-loop-position : goal.invariant-loop-position
invariant-loop-position l = TellFrom l.sets l.others l.list.items l.position
