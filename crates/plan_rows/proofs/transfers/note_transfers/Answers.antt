use Rattle.std.proofs.Common.{sym, subst, take, arith, List}
use Rattle.net_items.specs.declared.items.Point.{Point}
use Rattle.plan_rows.specs.Transfers.{IsTransfers}
use Rattle.plan_rows.proofs.SeenLemmas.{take_push}
use Rattle.plan_rows.proofs.TransferLemmas.{none_before}
use Rattle.plan_rows.proofs.transfers.note_transfers.Goals as goal

pub loop-point-preserved : goal.loop-point-preserved
loop-point-preserved c = record {
  long = omega arith;
  noted = subst (λ (ps : List Point). IsTransfers c.note_point.new.transfers ps) (sym (take_push c.args.points.now c.loop-point.point-index c.point-item.result c.point-item.result c.loop-point-test.true c.point-item.is))
      (c.note_point.ensures (take c.loop-point.point-index c.args.points.now) (none_before c.args.points.now c.loop-point.point-index c.point-item.result c.point-item.result c.loop-point-test.true c.point-item.is c.requires.rising) c.loop-point.invariant.noted);
}
