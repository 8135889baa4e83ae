use Rattle.std.proofs.Common.{◌≡◌, ◌∙◌, [], Some, sym, subst, take, false}
use Rattle.net_items.specs.declared.items.Point.{Point}
use Rattle.net_data.specs.declared.events.Event.TheVariants as on
use Rattle.net_data.specs.Edits.{refusal_of, apply_all}
use Rattle.net_sheets.specs.Events.{is_named, pair_events_after}
use Rattle.net_sheets.proofs.BuildingLemmas.{refusal_told, stop_pair}
use Rattle.net_sheets.proofs.building.pair_points.Goals as goal

pub returns-in-Err-clause-err : goal.returns-in-Err-clause-err
returns-in-Err-clause-err c =
    let p : Point = c.index-points-i.result in
    c.refused_at.ensures (apply_all c.args.net.now (pair_events_after [] c.args.points.now)) (λ other. stop_pair c.loop-i.net c.args.points.now c.loop-i.i c.index-points-i.result c.in-Some.mate c.in-Err.refusal _ c.loop-i-test.true
    (subst (λ (q : Point). q.mate ≡ Some c.in-Some.mate) c.index-points-i.is c.in-Some.is)
    (subst (λ (q : Point). is_named (take c.loop-i.i c.args.points.now) c.in-Some.mate q.code ≡ false) c.index-points-i.is (sym c.is_named.ensures ∙ c.if-is_named.false))
    (subst (λ (q : Point). refusal_of c.loop-i.net (on.Pair q.code c.in-Some.mate) ≡ Some c.in-Err.refusal) c.index-points-i.is
    (refusal_told c.loop-i.net c.apply.new.self (on.Pair p.code c.in-Some.mate) c.in-Err.refusal other c.in-Err.ensures.answer)) c.loop-i.invariant)
