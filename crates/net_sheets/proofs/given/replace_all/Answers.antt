use Rattle.std.proofs.Common.{◌∷◌, [], map, ap, sym, subst, ◌∙◌}
use Rattle.net_data.specs.Edits.{apply_all}
use Rattle.net_items.specs.declared.items.Plan.{Plan}
use Rattle.net_building.specs.Building.{plan_event}
use Rattle.net_sheets.specs.Faults.{IsRefusal}
use Rattle.net_sheets.proofs.BuildingLemmas.{stop_each}
use Rattle.net_sheets.proofs.given.replace_all.Goals as goal

pub returns-in-Err-clause-err : goal.returns-in-Err-clause-err
returns-in-Err-clause-err c =
    let all = apply_all c.args.net.now (map plan_event c.args.plans.now) in
    subst (IsRefusal all) (sym c.fault_at.ensures)
    (c.refused.ensures all (λ other. stop_each plan_event c.loop-i.net c.args.plans.now c.loop-i.i c.index-plans-i.result c.in-Err.refusal all c.loop-i-test.true
    (ap (λ (p : Plan). apply_all c.loop-i.net (plan_event p ∷ [])) (sym c.index-plans-i.is) ∙ c.in-Err.ensures.err other) c.loop-i.invariant))
