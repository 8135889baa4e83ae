use Rattle.std.proofs.Common.{◌≤◌, ◌-◌, take, length}
use Rattle.net_sheets.proofs.AddingLemmas.{PlansSoFar}
use Rattle.net_sheets.proofs.plans.add_plans.Given as goal

abbrev pub invariant-loop-at : goal.invariant-loop-at
invariant-loop-at l = record {
  within : l.at ≤ length l.routes;
  so_far : PlansSoFar l.fn.net l.fn.dests.items (take l.at l.routes) l.dests.items l.net;
}

abbrev pub decreases-loop-at : goal.decreases-loop-at
decreases-loop-at l = length l.routes - l.at
