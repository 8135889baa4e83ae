use Rattle.std.proofs.Common.{sym}
use Rattle.net_items.specs.declared.items.Plan.{Plan}
use Rattle.net_items.proofs.KeyedLemmas.{found_holds}
use Rattle.net_data.specs.Valid.{IsRightPlan}
use Rattle.dirty_sets.proofs.readers.would_read_set.Goals as goal

pub is_read-requires-clause-rows_rise : goal.is_read-requires-clause-rows_rise
is_read-requires-clause-rows_rise c =
    let net = c.args.net.now in
    (found_holds (λ (p : Plan). p.dest) (IsRightPlan net.points net.sets) c.args.dest net.plans c.in-Some.plan.now c.validity.ensures.plans_right (sym c.in-Some.ensures)).rows_rise
