use Rattle.std.proofs.Common.{sym, map, false}
use Rattle.std.proofs.lemmas.List.{get_or-replicate}
use Rattle.net_items.specs.declared.items.Point.{Point}
use Rattle.plan_rows.proofs.SeenLemmas.{there-next, there-not}
use Rattle.plan_rows.proofs.causes.has_points.Goals as goal

pub see_points-requires-clause-blank : goal.see_points-requires-clause-blank
see_points-requires-clause-blank c = λ z within. get_or-replicate 16384 z false false within

pub returns-then-not-is_seen : goal.returns-then-not-is_seen
returns-then-not-is_seen c =
    sym (there-not c.args.points.now c.args.rows.now c.loop-row.row-index c.row-item.result c.is_seen.result c.loop-row-test.true c.row-item.is (c.is_seen.ensures (map (λ (p : Point). p.code) c.args.points.now) c.see_points.ensures.seen) c.if-not-is_seen.true)

pub loop-row-preserved : goal.loop-row-preserved
loop-row-preserved c = record {
  long = c.loop-row.invariant.long;
  seen = c.loop-row.invariant.seen;
  there = there-next c.args.points.now c.args.rows.now c.loop-row.row-index c.row-item.result c.is_seen.result c.loop-row-test.true c.row-item.is (c.is_seen.ensures (map (λ (p : Point). p.code) c.args.points.now) c.see_points.ensures.seen) c.if-not-is_seen.false c.loop-row.invariant.there;
}
