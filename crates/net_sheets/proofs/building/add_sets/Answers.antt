use Rattle.std.proofs.Common.{ap, ◌∙◌, sym, get_or}
use Rattle.std.specs.List.{flat_map}
use Rattle.net_items.specs.declared.items.LinkSet.{LinkSet}
use Rattle.net_data.specs.Edits.{apply_all}
use Rattle.net_building.specs.Building.{set_events}
use Rattle.net_sheets.proofs.BuildingLemmas.{apply_more, stop_more}
use Rattle.net_sheets.proofs.building.add_sets.Goals as goal

pub loop-i-preserved : goal.loop-i-preserved
loop-i-preserved c =
    let set : LinkSet = get_or c.args.sets.now c.loop-i.i c.index-sets-i.result in
    apply_more set_events c.loop-i.net c.add_set.new.net c.args.sets.now c.loop-i.i c.index-sets-i.result _ c.loop-i-test.true
    (ap (λ (s : LinkSet). apply_all c.loop-i.net (set_events s)) (sym c.index-sets-i.is) ∙ c.in_default.ensures.ok) c.loop-i.invariant

pub returns-in-Err-clause-err : goal.returns-in-Err-clause-err
returns-in-Err-clause-err c =
    c.refused_at.ensures (apply_all c.args.net.now (flat_map set_events c.args.sets.now)) (λ other. stop_more set_events c.loop-i.net c.args.sets.now c.loop-i.i c.index-sets-i.result c.in-Err.refusal _ c.loop-i-test.true
    (ap (λ (s : LinkSet). apply_all c.loop-i.net (set_events s)) (sym c.index-sets-i.is) ∙ c.in-Err.ensures.err other) c.loop-i.invariant)
