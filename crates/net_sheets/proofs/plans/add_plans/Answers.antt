use Rattle.std.proofs.Common.{take, arith, sym, subst, ◌∙◌}
use Rattle.std.proofs.lemmas.List.{take_all}
use Rattle.net_sheets.proofs.AddingLemmas.{PlansSoFar, none_so_far, plan_more, plans_all}
use Rattle.std.proofs.lemmas.Result.{err_from_is_err_and}
use Rattle.net_sheets.proofs.FaultLemmas.{rows_fault, stops_at}
use Rattle.net_sheets.proofs.plans.add_plans.Goals as goal

pub loop-at-init : goal.loop-at-init
loop-at-init c = record { within = omega arith; so_far = none_so_far c.args.net.now c.args.dests.items c.requires }

pub loop-at-preserved : goal.loop-at-preserved
loop-at-preserved c =
    let rows = c.in_ok-rows.ensures in
    record {
      within = rows.within;
      so_far = rw c.in_ok-push.ensures
          (plan_more c.args.net.now c.loop-at.net c.add_plan.new.net c.args.dests.items (take c.loop-at.at c.args.routes.now) (take c.in_ok-rows.end c.args.routes.now) c.loop-at.dests.items c.dest_of-dest.result c.in_ok-rows.rows.items
          c.loop-at.invariant.so_far (rw c.as_slice.ensures.value at (sym c.is_in.ensures ∙ c.if-is_in.false)) rows.some rows.rows c.in_default.ensures.ok);
    }

pub returns-clause-ok : goal.returns-clause-ok
returns-clause-ok c =
    let all = take_all c.loop-at.at c.args.routes.now c.loop-at-test.false in
    plans_all c.args.net.now c.loop-at.net c.args.dests.items c.args.routes.now c.loop-at.dests.items (subst (λ rs. PlansSoFar c.args.net.now c.args.dests.items rs c.loop-at.dests.items c.loop-at.net) all c.loop-at.invariant.so_far)

pub returns-in-Err-clause-err : goal.returns-in-Err-clause-err
returns-in-Err-clause-err c =
    let before = plans_all c.args.net.now c.loop-at.net c.args.dests.items (take c.loop-at.at c.args.routes.now) c.loop-at.dests.items c.loop-at.invariant.so_far in
    stops_at c.args.net.now c.loop-at.net c.args.dests.items c.args.routes.now c.dest_of-dest.result c.loop-at.at c.in_ok-rows.end c.in_ok-rows.rows.items _ before c.in_ok-rows.ensures.rows c.in-Err.ensures.err

pub returns-in_err-rows-clause-err : goal.returns-in_err-rows-clause-err
returns-in_err-rows-clause-err c =
    let p = err_from_is_err_and c.from_residual.result c.from_residual.ensures.1 in
    rw (p.1, p.2) (rows_fault c.args.net.now c.args.dests.items c.args.routes.now _ c.in_err-rows.ensures.err)

pub returns-then-is_in-clause-err : goal.returns-then-is_in-clause-err
returns-then-is_in-clause-err c = c.repeated-reason.ensures c.args.net.now c.args.dests.items c.args.routes.now
