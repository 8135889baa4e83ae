use Rattle.std.proofs.Common.{◌≡◌, take}
use Rattle.sessions.specs.Lines.{line_count}
use Rattle.sessions.proofs.scanning.count_in_short.Given as goal

-- the lines of the bytes so far
abbrev pub invariant-loop-byte : goal.invariant-loop-byte
invariant-loop-byte l = l.count ≡ line_count (take l.byte-index l.text)
