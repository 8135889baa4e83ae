use Rattle.std.proofs.Common.{◌∷◌, [], arith}
use Rattle.excerpts.proofs.ReadLemmas.{row_leads}
use Rattle.dirty_sets.proofs.reading.row_joins.Goals as goal

pub returns-then-leads : goal.returns-then-leads
returns-then-leads c = let both = row_leads c.args.set.now (c.args.row.now ∷ []) (tt, tt) in grind arith

pub returns-else-leads : goal.returns-else-leads
returns-else-leads c = let both = row_leads c.args.set.now (c.args.row.now ∷ []) (tt, tt) in grind arith
