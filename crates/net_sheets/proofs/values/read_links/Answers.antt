use Rattle.std.proofs.Common.{ap, sym, ◌∙◌, Some}
use Rattle.tokens.specs.Pieces.{pieces_of}
use Rattle.tokens.specs.Marked.{marked_of}
use Rattle.tokens.specs.declared.marked.Format.TheVariants.{Two}
use Rattle.tokens.proofs.PiecesLemmas.{onto, read_more, read_none, read_last, read_last_none}
use Rattle.net_sheets.proofs.values.read_links.Goals as goal

pub returns-in-None : goal.returns-in-None
returns-in-None c = read_none 32 (marked_of Two) c.loop-first.links.items c.loop-first.rest.now _ _ _ (sym c.in-Some.ensures) (sym c.in-None.ensures) c.loop-first.invariant

pub loop-first-preserved : goal.loop-first-preserved
loop-first-preserved c =
    ap (λ ys. onto ys (pieces_of 32 (marked_of Two) c.in-Some.after.now)) c.in_ok-push-in-Some-read_marked.ensures.items
    ∙ read_more 32 (marked_of Two) c.loop-first.links.items _ c.loop-first.rest.now _ _ _ (sym c.in-Some.ensures) (sym c.in-Some-read_marked.ensures) c.loop-first.invariant

pub returns-in-None-read_marked : goal.returns-in-None-read_marked
returns-in-None-read_marked c = read_last_none 32 (marked_of Two) c.loop-first.links.items c.loop-first.rest.now _ (sym c.in_default.ensures) (sym c.in-None-read_marked.ensures) c.loop-first.invariant

pub returns : goal.returns
returns c =
    ap Some (c.in_ok-push-in-Some-read_marked-2.ensures.items)
    ∙ read_last 32 (marked_of Two) c.loop-first.links.items _ c.loop-first.rest.now _ (sym c.in_default.ensures) (sym c.in-Some-read_marked-2.ensures) c.loop-first.invariant
