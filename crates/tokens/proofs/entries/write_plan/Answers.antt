use Rattle.tokens.proofs.JoinLemmas.{plan_tails}
use Rattle.tokens.proofs.entries.write_plan.Goals as goal

pub returns : goal.returns
returns c = plan_tails c.args.plan.now.dest c.args.plan.now.rows _ _ _ c.in_ok-text.ensures.ok c.as_slice.ensures c.in_ok-put_rows.ensures
