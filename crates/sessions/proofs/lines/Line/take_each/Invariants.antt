use Rattle.std.proofs.Common.{ℕ, ◌++◌, List, take}
use Rattle.sessions.specs.Run.{IsLine}
use Rattle.sessions.proofs.lines.Line.take_each.Given as goal

-- the bytes so far were taken
abbrev pub invariant-loop-byte : goal.invariant-loop-byte
invariant-loop-byte l = (rest : List ℕ) → IsLine l.fn.self rest → IsLine l.self (rest ++ take l.byte-index l.bytes)
