use Rattle.plan_rows.proofs.RanksLemmas.{IsRanks-note}
use Rattle.plan_rows.proofs.ranks.note_rank.Goals as goal

pub returns : goal.returns
returns c = λ done noted. IsRanks-note c.args.ranks.now done c.args.row.now c.number-at.result c.lesser.result c.number-at.ensures.value c.requires c.number-at.ensures.in_range c.lesser.ensures.none c.lesser.ensures.less c.lesser.ensures.kept noted
