use Rattle.std.proofs.Common.{◌≡◌, ◌∙◌, IfOk, None, Some, ap, subst, sym}
use Rattle.net_items.specs.Lookups.{row_at}
use Rattle.profile.specs.Status.{source_row}
use Rattle.profile.specs.Valid.{IsValidSource}
use Rattle.profile.proofs.UnfoldingLemmas.{row_valid}
use Rattle.excerpts.specs.Excerpt.{ExcerptValue, source_of}
use Rattle.what_if.specs.Mending.{mend}
use Rattle.what_if.proofs.MendingLemmas.{mend_unplanned}
use Rattle.what_if.proofs.mending.point_needs.Goals as goal

pub point_mend-requires-clause-row : goal.point_mend-requires-clause-row
point_mend-requires-clause-row c =
    let valid : IsValidSource (source_of c.args.routing.now.excerpt) = subst (λ (x : ExcerptValue). IsValidSource (source_of x)) c.excerpt.ensures c.validity.ensures.valid in
    let planned : source_row (source_of c.args.routing.now.excerpt) c.args.point ≡ Some c.in-Some.row.now = ap (λ (x : ExcerptValue). row_at x.plan.rows c.args.point) (sym c.excerpt-2.ensures) ∙ sym c.in-Some.ensures in
    ap (source_row (source_of c.args.routing.now.excerpt)) (row_valid (source_of c.args.routing.now.excerpt) valid c.args.point c.in-Some.row.now planned).0 ∙ planned

pub returns-in_ok-mends-in-Some : goal.returns-in_ok-mends-in-Some
returns-in_ok-mends-in-Some c =
    let src = source_of c.args.routing.now.excerpt in
    let valid : IsValidSource src = subst (λ (x : ExcerptValue). IsValidSource (source_of x)) c.excerpt.ensures c.validity.ensures.valid in
    let planned : source_row src c.args.point ≡ Some c.in-Some.row.now = ap (λ (x : ExcerptValue). row_at x.plan.rows c.args.point) (sym c.excerpt-2.ensures) ∙ sym c.in-Some.ensures in
    subst (λ wanted. IfOk c.point_mend.result (λ m. m ≡ mend src wanted c.args.point)) c.in_ok-mends-in-Some.ensures.wanted
    (subst (λ y. IfOk c.point_mend.result (λ m. m ≡ mend src c.in_ok-mends-in-Some.mends.wanted y)) (row_valid src valid c.args.point c.in-Some.row.now planned).0 c.point_mend.ensures)

pub returns-in-None : goal.returns-in-None
returns-in-None c =
    let valid : IsValidSource (source_of c.args.routing.now.excerpt) = subst (λ (x : ExcerptValue). IsValidSource (source_of x)) c.excerpt.ensures c.validity.ensures.valid in
    let unplanned : source_row (source_of c.args.routing.now.excerpt) c.args.point ≡ None = ap (λ (x : ExcerptValue). row_at x.plan.rows c.args.point) (sym c.excerpt-2.ensures) ∙ sym c.in-None.ensures in
    sym (mend_unplanned (source_of c.args.routing.now.excerpt) valid c.args.wanted c.args.point (c.reaches.ensures.no c.if-reaches.false) unplanned)
