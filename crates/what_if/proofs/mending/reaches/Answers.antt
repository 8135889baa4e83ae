use Rattle.std.proofs.Common.{◌∙◌, ap, subst, sym}
use Rattle.net_items.specs.declared.items.LinkSet.{LinkSet}
use Rattle.net_items.specs.Keyed.{IsRising}
use Rattle.profile.specs.Valid.{IsValidSource}
use Rattle.excerpts.specs.Excerpt.{ExcerptValue, source_of}
use Rattle.what_if.specs.Mending.{meets}
use Rattle.what_if.proofs.MendingLemmas.{reaching_mend}
use Rattle.what_if.proofs.mending.reaches.Goals as goal

pub returns-clause-yes : goal.returns-clause-yes
returns-clause-yes c = λ up.
    reaching_mend (source_of c.args.routing.now.excerpt) (subst (λ (x : ExcerptValue). IsValidSource (source_of x)) c.excerpt.ensures c.validity.ensures.valid)
    (subst (λ (x : ExcerptValue). IsRising (λ (set : LinkSet). set.id) x.network.sets) c.excerpt.ensures c.validity.ensures.network.sets_rise) c.args.wanted c.args.point
    (ap (meets c.args.wanted) (sym c.status.ensures) ∙ (sym c.is_met_by.ensures ∙ up))
