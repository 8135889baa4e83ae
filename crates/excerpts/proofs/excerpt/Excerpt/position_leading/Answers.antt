use Rattle.std.proofs.Common.{sym, ◌∙◌}
use Rattle.std.proofs.lemmas.Bool.{eqb-false, not-true}
use Rattle.excerpts.proofs.LeadLemmas.{leads_apart}
use Rattle.excerpts.proofs.excerpt.Excerpt.position_leading.Goals as goal

pub returns-then-not-transfers-clause-leads : goal.returns-then-not-transfers-clause-leads
returns-then-not-transfers-clause-leads c =
    sym (leads_apart c.args.self.now c.validity.ensures c.args.other (eqb-false c.args.other c.args.self.now.plan.dest (not-true _ (rw c.dest.ensures at (sym c.ne.ensures ∙ c.if-ne.true))))
    (sym c.requires ∙ c.if-not-transfers.true) c.args.point)
