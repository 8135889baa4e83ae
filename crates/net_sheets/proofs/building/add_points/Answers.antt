use Rattle.std.proofs.Common.{◌≡◌, map, Some, subst}
use Rattle.net_items.specs.declared.items.Point.{Point}
use Rattle.net_data.specs.Edits.{refusal_of, apply_all}
use Rattle.net_building.specs.Building.{point_event}
use Rattle.net_sheets.proofs.BuildingLemmas.{refusal_told, stop_at}
use Rattle.net_sheets.proofs.building.add_points.Goals as goal

pub returns-in-Err-clause-err : goal.returns-in-Err-clause-err
returns-in-Err-clause-err c =
    c.refused_at.ensures (apply_all c.args.net.now (map point_event c.args.points.now)) (λ other. stop_at point_event c.loop-i.net c.args.points.now c.loop-i.i c.index-points-i.result c.in-Err.refusal _ c.loop-i-test.true
    (subst (λ (p : Point). refusal_of c.loop-i.net (point_event p) ≡ Some c.in-Err.refusal) c.index-points-i.is
    (refusal_told c.loop-i.net c.apply.new.self (point_event c.index-points-i.result) c.in-Err.refusal other c.in-Err.ensures.answer)) c.loop-i.invariant)
