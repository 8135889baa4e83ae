use Rattle.std.proofs.Common.{refl, subst}
use Rattle.serving.specs.Sittings.{IsEndOf, SittingValue}
use Rattle.serving.proofs.ends.ended.Goals as goal

pub returns-clause-end : goal.returns-clause-end
returns-clause-end g c =
    let s = c.sitting.inside in
    subst
    (λ (v : SittingValue g.row.R.Denot g.row.W.Denot g.row.L.Denot). IsEndOf g.N.Naming.seats c.args.history.now.log c.args.history.now.state v
    (record { lines = s.lines; fault = s.fault; reader = s.channel.reader; writer = s.channel.writer }))
    c.sitting.view_is (record { is = refl; seat = c.explain.ensures.seat })
