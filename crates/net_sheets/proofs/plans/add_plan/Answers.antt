use Rattle.std.proofs.Common.{◌∙◌, List, ap, subst}
use Rattle.net_items.specs.declared.lists.Row.{Row}
use Rattle.net_data.specs.declared.events.Event.TheVariants.{SetPlan}
use Rattle.plan_ranks.specs.Ranks.{IsLeast, with_ranks}
use Rattle.plan_ranks.specs.Loops.{IsRankFault}
use Rattle.net_sheets.proofs.FaultLemmas.{plan_unranked, plan_told}
use Rattle.net_sheets.proofs.plans.add_plan.Goals as goal

pub returns-in-Err-clause-err : goal.returns-in-Err-clause-err
returns-in-Err-clause-err c =
    plan_unranked c.args.net.now c.args.dest c.args.rows.items c.unranked.result
    (c.unranked.ensures c.args.net.now.points c.args.dest c.args.rows.items (subst (λ rows. IsRankFault c.args.net.now.points c.args.dest rows c.in-Err.fault) c.as_slice.ensures.value c.in-Err.ensures.err))

pub returns-clause-err : goal.returns-clause-err
returns-clause-err c =
    let ranks = c.in-Ok.ranks.items in
    plan_told c.args.net.now c.args.dest c.args.rows.items ranks c.in_ok-event.event c.in-Err-apply_one.refusal c.refused.result
    (subst (λ rows. IsLeast c.args.net.now.points c.args.dest rows ranks) c.as_slice.ensures.value c.in-Ok.ensures.ok)
    (c.in_ok-event.ensures ∙ ap (λ (rows : List Row). SetPlan (record { dest = c.args.dest; rows = rows })) (c.set_ranks.ensures ∙ ap (with_ranks c.args.rows.items) c.as_slice-2.ensures.value))
    c.in-Err-apply_one.ensures.err c.refused.ensures
