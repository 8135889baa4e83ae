use Rattle.std.proofs.Common.{◌≡◌, ◌++◌, drop}
use Rattle.plan_ranks.specs.Ranks.{needs_from, needs_of}
use Rattle.plan_ranks.proofs.needs.needs_of.Given as goal

-- what was found and what is left to find are what all rows need
abbrev pub invariant-loop-place : goal.invariant-loop-place
invariant-loop-place l = l.needs.items ++ needs_from l.points l.dest l.rows l.place (drop l.place l.rows) ≡ needs_of l.points l.dest l.rows
