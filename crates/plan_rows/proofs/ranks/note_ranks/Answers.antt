use Rattle.std.proofs.Common.{sym, subst, take, arith}
use Rattle.plan_rows.specs.Ranks.{IsRanks}
use Rattle.plan_rows.proofs.SeenLemmas.{take_push}
use Rattle.plan_rows.proofs.ranks.note_ranks.Goals as goal

pub loop-row-preserved : goal.loop-row-preserved
loop-row-preserved c = record {
  long = omega arith;
  noted = subst (IsRanks c.note_rank.new.ranks) (sym (take_push c.args.rows.now c.loop-row.row-index c.row-item.result c.row-item.result c.loop-row-test.true c.row-item.is)) (c.note_rank.ensures (take c.loop-row.row-index c.args.rows.now) c.loop-row.invariant.noted);
}
