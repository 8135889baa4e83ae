use Rattle.std.proofs.Common.{arith}
use Rattle.excerpts.proofs.TurnedLemmas.{tell_more}
use Rattle.excerpts.proofs.turned.turned_in_place.Goals as goal

pub loop-position-preserved : goal.loop-position-preserved
loop-position-preserved c =
    tell_more c.args.sets.now c.args.others.now c.loop-position.list.items c.put_if_differs.new.list.items c.loop-position.position c.index-sets-position.result c.index-others-position.result
    (omega arith) c.index-sets-position.is (omega arith) c.index-others-position.is (c.has_same_ends.ensures c.if-not-has_same_ends.false)
    c.in_ok-put_if_differs.ensures.kept c.in_ok-put_if_differs.ensures.there c.in_ok-put_if_differs.ensures.back c.loop-position.invariant
