use Rattle.std.proofs.Common.{◌≡◌, drop}
use Rattle.plan_ranks.specs.Loops.{has_step, leads}
use Rattle.plan_ranks.proofs.loops.has_via.Given as goal

-- what is left of the chain has a step exactly if all of it has one
abbrev pub invariant-loop-other : goal.invariant-loop-other
invariant-loop-other l = has_step (leads l.dest l.rows) l.end l.point (drop l.other-index l.others) ≡ has_step (leads l.dest l.rows) l.end l.fn.first l.others
