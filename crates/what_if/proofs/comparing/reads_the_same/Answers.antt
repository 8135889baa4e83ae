use Rattle.std.proofs.Common.{◌≡◌, Some, sym, ap, subst, ◌∙◌}
use Rattle.net_data.specs.Valid.{IsValid as IsValidNet}
use Rattle.net_data.specs.Network.{Network}
use Rattle.excerpts.specs.Excerpt.{ExcerptValue, content_of, content_at}
use Rattle.what_if.specs.Reports.{choice_of}
use Rattle.what_if.proofs.UnchangedLemmas.{choices_read}
use Rattle.what_if.proofs.comparing.reads_the_same.Goals as goal

pub returns-in-Some : goal.returns-in-Some
returns-in-Some c told point =
    let x : ExcerptValue = c.excerpt-excerpt.result.now in
    let valid : IsValidNet c.args.net.now = subst IsValidNet c.net.ensures c.validity-in-Some.ensures in
    let same : content_at c.args.net.now c.args.dest ≡ Some (content_of x)
    = ap (λ (net : Network). content_at net c.args.dest) (sym c.net-in-Some.ensures) ∙ c.is_of.ensures.0 told in
    rw c.in-Some.is
    (ap (λ (y : ExcerptValue). choice_of (Some y) point) (sym c.excerpt-excerpt.ensures)
    ∙ choices_read x c.validity.ensures c.args.net.now valid c.args.dest same point)
