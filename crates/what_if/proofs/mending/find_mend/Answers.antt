use Rattle.std.proofs.Common.{◌≡◌, subst, sym}
use Rattle.std.proofs.lemmas.Result.{IfOk-weaker}
use Rattle.net_items.specs.declared.items.LinkSet.{LinkSet}
use Rattle.net_items.specs.Keyed.{IsRising}
use Rattle.profile.specs.Valid.{IsValidSource}
use Rattle.excerpts.specs.Excerpt.{ExcerptValue, source_of}
use Rattle.what_if.specs.Mending.{IsMend, mend}
use Rattle.what_if.proofs.LeastLemmas.{mend_law_is}
use Rattle.what_if.proofs.mending.find_mend.Goals as goal

pub returns-clause-least : goal.returns-clause-least
returns-clause-least c =
    let valid : IsValidSource (source_of c.args.routing.now.excerpt) = subst (λ (x : ExcerptValue). IsValidSource (source_of x)) c.excerpt.ensures c.validity.ensures.valid in
    let rising : IsRising (λ (set : LinkSet). set.id) c.args.routing.now.excerpt.network.sets = subst (λ (x : ExcerptValue). IsRising (λ (set : LinkSet). set.id) x.network.sets) c.excerpt.ensures c.validity.ensures.network.sets_rise in
    IfOk-weaker c.point_needs.result (λ m. m ≡ mend (source_of c.args.routing.now.excerpt) c.args.wanted c.args.point) (IsMend (source_of c.args.routing.now.excerpt) c.args.wanted c.args.point)
    (λ m is. subst (IsMend (source_of c.args.routing.now.excerpt) c.args.wanted c.args.point) (sym is) (mend_law_is (source_of c.args.routing.now.excerpt) valid rising c.args.wanted c.args.point)) c.point_needs.ensures
