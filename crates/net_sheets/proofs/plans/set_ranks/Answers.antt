use Rattle.std.proofs.Common.{◌∙◌}
use Rattle.std.proofs.lemmas.List.{length-set}
use Rattle.net_sheets.proofs.PlanLemmas.{ranked_none, ranked_more}
use Rattle.net_sheets.proofs.plans.set_ranks.Goals as goal

pub loop-i-init : goal.loop-i-init
loop-i-init c = record { many = c.requires; ranked = ranked_none c.args.rows.now.items }

pub loop-i-preserved : goal.loop-i-preserved
loop-i-preserved c =
    let before = c.loop-i.invariant in
    record {
      many = length-set c.loop-i.rows.items c.loop-i.i _ ∙ before.many;
      ranked = ranked_more c.args.rows.now.items c.loop-i.rows.items c.args.ranks.now c.loop-i.i c.index_mut-row.result.now c.loop-i-test.true before.many c.requires before.ranked c.index_mut-row.ensures.value;
    }
