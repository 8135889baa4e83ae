use Rattle.std.proofs.Common.{ap, sym, ◌∙◌, Ok, Some}
use Rattle.point_codes.proofs.CodeLemmas.{map_Some}
use Rattle.tokens.specs.Pieces.{pieces_of}
use Rattle.tokens.specs.Rows.{vias_of}
use Rattle.tokens.proofs.PiecesLemmas.{onto, read_more, read_none, read_last, read_last_none}
use Rattle.tokens.proofs.rows.read_joined_classes.Goals as goal

pub returns-then-not-added : goal.returns-then-not-added
returns-then-not-added c =
    read_none 47 vias_of c.loop-first.classes.items c.loop-first.rest.now _ _ _ (sym c.in-Some.ensures) (c.in_ok-added.ensures.none (ap Ok c.if-not-added.true)) c.loop-first.invariant

pub loop-first-preserved : goal.loop-first-preserved
loop-first-preserved c =
    let first = map_Some _ _ c.add_class.new.classes.items (c.in_ok-added.ensures.added (ap Ok c.if-not-added.false)) in
    ap (λ ys. onto ys (pieces_of 47 vias_of c.in-Some.after.now)) (sym first.2)
    ∙ read_more 47 vias_of c.loop-first.classes.items first.0 c.loop-first.rest.now _ _ _ (sym c.in-Some.ensures) first.1 c.loop-first.invariant

pub returns-then-not-added-2 : goal.returns-then-not-added-2
returns-then-not-added-2 c =
    read_last_none 47 vias_of c.loop-first.classes.items c.loop-first.rest.now _ (sym c.in_default.ensures) (c.in_ok-added-2.ensures.none (ap Ok c.if-not-added-2.true)) c.loop-first.invariant

pub returns : goal.returns
returns c =
    let last = map_Some _ _ c.add_class-2.new.classes.items (c.in_ok-added-2.ensures.added (ap Ok c.if-not-added-2.false)) in
    ap Some (c.in_ok-from_vec.ensures ∙ sym last.2) ∙ read_last 47 vias_of c.loop-first.classes.items last.0 c.loop-first.rest.now _ (sym c.in_default.ensures) last.1 c.loop-first.invariant
