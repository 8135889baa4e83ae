use Rattle.std.proofs.Common.{◌≡◌, drop}
use Rattle.plan_ranks.specs.Loops.{is_chain, is_next}
use Rattle.plan_ranks.proofs.loops.is_closed.Given as goal

-- what is left of the chain holds exactly if all of it does
abbrev pub invariant-loop-other : goal.invariant-loop-other
invariant-loop-other l =
    is_chain (is_next l.points l.dest l.rows) l.end l.point (drop l.other-index l.others) ≡ is_chain (is_next l.points l.dest l.rows) l.end l.fn.first l.others
