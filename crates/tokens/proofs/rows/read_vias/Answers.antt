use Rattle.std.proofs.Common.{ap, sym, ◌∙◌, Some}
use Rattle.point_codes.specs.Codes.{code_of}
use Rattle.tokens.specs.Rows.{vias_of}
use Rattle.tokens.proofs.PiecesLemmas.{onto, read_more, read_none, read_last, read_last_none}
use Rattle.tokens.proofs.rows.read_vias.Goals as goal

pub returns-in-None : goal.returns-in-None
returns-in-None c = read_none 43 code_of c.loop-first.vias c.loop-first.rest.now _ _ _ (sym c.in-Some.ensures) (sym c.in-None.ensures) c.loop-first.invariant

pub loop-first-preserved : goal.loop-first-preserved
loop-first-preserved c =
    ap (λ ys. onto ys (vias_of c.in-Some.after.now)) c.in_ok-push-in-Some-read_code.ensures.ok
    ∙ read_more 43 code_of c.loop-first.vias _ c.loop-first.rest.now _ _ _ (sym c.in-Some.ensures) (sym c.in-Some-read_code.ensures) c.loop-first.invariant

pub returns-in-None-read_code : goal.returns-in-None-read_code
returns-in-None-read_code c = read_last_none 43 code_of c.loop-first.vias c.loop-first.rest.now _ (sym c.in_default.ensures) (sym c.in-None-read_code.ensures) c.loop-first.invariant

pub returns : goal.returns
returns c =
    ap Some (c.in_ok-push-in-Some-read_code-2.ensures.ok)
    ∙ read_last 43 code_of c.loop-first.vias _ c.loop-first.rest.now _ (sym c.in_default.ensures) (sym c.in-Some-read_code-2.ensures) c.loop-first.invariant
