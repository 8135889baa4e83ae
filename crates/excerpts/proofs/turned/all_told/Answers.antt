use Rattle.std.proofs.Common.{◌∙◌}
use Rattle.excerpts.specs.Turned.{told_of}
use Rattle.excerpts.proofs.ReadLemmas.{map-push}
use Rattle.excerpts.proofs.turned.all_told.Goals as goal

pub loop-pair-preserved : goal.loop-pair-preserved
loop-pair-preserved c =
    c.in_ok-push.ensures.items ∙ map-push (told_of c.args.net.now.points) c.args.pairs.now c.loop-pair.pair-index c.pair-item.result c.loop-pair.list.items c.told.result c.loop-pair-test.true c.pair-item.is c.told.ensures c.loop-pair.invariant
