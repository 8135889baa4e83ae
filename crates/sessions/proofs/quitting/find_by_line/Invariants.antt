use Rattle.std.proofs.Common.{length}
use Rattle.sessions.proofs.QuitLemmas.{GoesOn}
use Rattle.sessions.proofs.quitting.find_by_line.Given as goal

-- the input goes on after the lines before the rest
abbrev pub invariant-loop-front : goal.invariant-loop-front
invariant-loop-front l = GoesOn l.fn.start l.bytes l.line l.rest

abbrev pub decreases-loop-front : goal.decreases-loop-front
decreases-loop-front l = length l.rest
