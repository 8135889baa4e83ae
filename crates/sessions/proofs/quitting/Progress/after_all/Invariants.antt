use Rattle.std.proofs.Common.{◌≡◌, length}
use Rattle.sessions.specs.Quitting.{after_all}
use Rattle.sessions.proofs.quitting.Progress.after_all.Given as goal

-- the line comes to the same by the rest
abbrev pub invariant-loop-byte : goal.invariant-loop-byte
invariant-loop-byte l = after_all l.line l.rest ≡ after_all l.fn.self l.bytes

abbrev pub decreases-loop-byte : goal.decreases-loop-byte
decreases-loop-byte l = length l.rest
