use Rattle.std.proofs.Common.{sym, ◌∙◌, refl}
use Rattle.std.proofs.lemmas.Bool.{not-true}
use Rattle.plan_rows.proofs.CauseLemmas.{and_no, nothing_wrong}
use Rattle.plan_rows.proofs.causes.is_right.Goals as goal

pub returns-then-row : goal.returns-then-row
returns-then-row c earlier repeated once right =
    nothing_wrong c.args.setting.now.points c.args.sets.now c.args.setting.now.dest c.args.setting.now.rows earlier c.args.row.now
    (rw c.dest.ensures at (sym c.eq.ensures ∙ c.if-eq.false)) (sym repeated ∙ c.if-repeated.false) (sym once ∙ c.if-not-once.false)
    (rw c.requires at (sym c.are_vias_right.ensures ∙ c.if-not-are_vias_right.false)) (rw (c.if-row.true, sym c.has_mate_row.ensures ∙ right) refl) (rw c.if-row.true (and_no _))

pub returns : goal.returns
returns c earlier repeated once right =
    nothing_wrong c.args.setting.now.points c.args.sets.now c.args.setting.now.dest c.args.setting.now.rows earlier c.args.row.now
    (rw c.dest.ensures at (sym c.eq.ensures ∙ c.if-eq.false)) (sym repeated ∙ c.if-repeated.false) (sym once ∙ c.if-not-once.false)
    (rw c.requires at (sym c.are_vias_right.ensures ∙ c.if-not-are_vias_right.false)) (rw c.if-row.false refl) (rw (c.if-row.false, sym c.has_no_class.ensures ∙ not-true _ right) refl)
