use Rattle.std.proofs.Common.{◌≡◌, ◌+◌, length}
use Rattle.sessions.specs.Lines.{line_count}
use Rattle.sessions.proofs.scanning.count_lines.Given as goal

-- the lines so far and those of the rest
abbrev pub invariant-loop-rest : goal.invariant-loop-rest
invariant-loop-rest l = l.count + line_count l.rest ≡ line_count l.text

abbrev pub decreases-loop-rest : goal.decreases-loop-rest
decreases-loop-rest l = length l.rest
