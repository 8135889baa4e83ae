use Rattle.std.proofs.Common.{◌∙◌, sym, ap, Some}
use Rattle.std.proofs.lemmas.Bool.{eqb-true, eqb-false}
use Rattle.excerpts.specs.Excerpt.{source_of}
use Rattle.what_if.proofs.MendingLemmas.{mend_at_dest, mend_of_none, known_value}
use Rattle.what_if.proofs.mending.mend_of.Goals as goal

pub returns-then-eq : goal.returns-then-eq
returns-then-eq c = mend_at_dest (source_of c.args.excerpt.now) c.validity.ensures.valid c.args.mends.now.wanted c.args.point (eqb-true c.args.point c.dest.result (sym c.eq.ensures ∙ c.if-eq.true) ∙ c.dest.ensures)

pub returns-in-Err : goal.returns-in-Err
returns-in-Err c =
    mend_of_none (source_of c.args.excerpt.now) c.validity.ensures.valid c.args.mends.now.wanted c.args.point (λ e. eqb-false c.args.point c.dest.result (sym c.eq.ensures ∙ c.if-eq.false) (e ∙ sym c.dest.ensures)) c.in-Err.ensures.absent.absent

pub returns-in-Some : goal.returns-in-Some
returns-in-Some c =
    known_value (source_of c.args.excerpt.now) c.validity.ensures.valid c.args.mends.now.wanted c.args.mends.now.list.items c.args.point c.in-Ok.at c.index.result.now
    (λ e. eqb-false c.args.point c.dest.result (sym c.eq.ensures ∙ c.if-eq.false) (e ∙ sym c.dest.ensures)) c.in-Ok.ensures.found c.requires.known c.index.ensures
    ∙ (c.in-Some.is ∙ ap Some (sym c.as_slice.ensures))

pub returns-in-None : goal.returns-in-None
returns-in-None c =
    known_value (source_of c.args.excerpt.now) c.validity.ensures.valid c.args.mends.now.wanted c.args.mends.now.list.items c.args.point c.in-Ok.at c.index.result.now
    (λ e. eqb-false c.args.point c.dest.result (sym c.eq.ensures ∙ c.if-eq.false) (e ∙ sym c.dest.ensures)) c.in-Ok.ensures.found c.requires.known c.index.ensures
    ∙ c.in-None.is
