use Rattle.std.proofs.Common.{◌≡◌, ◌++◌, ap, sym, ◌∙◌}
use Rattle.std.proofs.lemmas.List.{take-append-drop}
use Rattle.point_codes.proofs.CodeLemmas.{code_reads}
use Rattle.tokens.proofs.rows.take_code.Goals as goal

pub returns-clause-text : goal.returns-clause-text
returns-clause-text c =
    let parts : c.split_at.result.0.now ++ c.split_at.result.1.now ≡ c.args.text.now = rw (c.split_at.ensures.front, c.split_at.ensures.back) (take-append-drop _ c.args.text.now) in
    let code = code_reads _ c.split_at.result.0.now (sym c.read_code.ensures ∙ c.in_ok-read_code.was) in
    sym parts ∙ ap (λ t. t ++ c.split_at.result.1.now) code.1
