use Rattle.sessions.specs.Input.{IsOpenAt}
use Rattle.sessions.proofs.input.find_mark.Given as goal

-- no mark so far
abbrev pub invariant-loop-at : goal.invariant-loop-at
invariant-loop-at l = IsOpenAt l.bytes l.line l.at
