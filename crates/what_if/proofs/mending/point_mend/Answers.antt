use Rattle.std.proofs.Common.{◌≡◌, ◌∙◌, IfOk, List, Option, ap, sym, subst}
use Rattle.profile.specs.Valid.{IsValidRow, IsValidSource}
use Rattle.profile.proofs.UnfoldingLemmas.{row_valid}
use Rattle.excerpts.specs.Excerpt.{ExcerptValue, source_of}
use Rattle.what_if.specs.declared.mending.SetLink.{SetLink}
use Rattle.what_if.specs.Mending.{mend, row_mend}
use Rattle.what_if.proofs.MendUnfoldingLemmas.{mend_of_row}
use Rattle.what_if.proofs.mending.point_mend.Goals as goal

pub row_mend-requires-clause-row : goal.row_mend-requires-clause-row
row_mend-requires-clause-row c =
    let valid : IsValidSource (source_of c.args.routing.now.excerpt) = subst (λ (x : ExcerptValue). IsValidSource (source_of x)) c.excerpt.ensures c.validity.ensures.valid in
    subst (λ (x : ExcerptValue). IsValidRow (source_of x) c.args.row.now) (sym c.excerpt-2.ensures) (row_valid (source_of c.args.routing.now.excerpt) valid c.args.row.now.point c.args.row.now c.requires.row).1

pub returns : goal.returns
returns c =
    let valid : IsValidSource (source_of c.args.routing.now.excerpt) = subst (λ (x : ExcerptValue). IsValidSource (source_of x)) c.excerpt.ensures c.validity.ensures.valid in
    subst (λ (v : Option (List SetLink)). IfOk c.row_mend.result (λ m. m ≡ v))
    (ap (λ (x : ExcerptValue). row_mend (source_of x) c.args.mends.now.wanted (mend (source_of x) c.args.mends.now.wanted) c.args.row.now) c.excerpt-2.ensures ∙ sym (mend_of_row (source_of c.args.routing.now.excerpt) valid c.args.mends.now.wanted c.args.row.now.point c.args.row.now c.requires.row)) c.row_mend.ensures
