use Rattle.std.proofs.Common.{Ok, ap, subst}
use Rattle.net_data.specs.Network.{Network}
use Rattle.excerpts.specs.Excerpt.{ExcerptValue, IsExcerptAnswer, excerpt_at}
use Rattle.excerpts.proofs.ExcerptLemmas.{answer_is}
use Rattle.excerpts.proofs.excerpt.Excerpt.share.Goals as goal

pub returns-in-Ok : goal.returns-in-Ok
returns-in-Ok c =
    answer_is c.args.self.now c.in-Ok.excerpt c.validity.ensures
    (subst (λ n. IsExcerptAnswer (excerpt_at c.args.self.now.network n) (Ok c.in-Ok.excerpt)) c.dest.ensures
    (subst (λ (net : Network). IsExcerptAnswer (excerpt_at net c.dest.result) (Ok c.in-Ok.excerpt)) (ap (λ (x : ExcerptValue). x.network) c.self.view_is) c.in-Ok.ensures))
