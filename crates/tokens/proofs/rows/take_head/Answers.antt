use Rattle.std.proofs.Common.{◌++◌, ◌∷◌, ap, sym, ◌∙◌, arith}
use Rattle.point_codes.specs.Codes.{code_text}
use Rattle.point_codes.proofs.CodeLemmas.{split_parts}
use Rattle.point_codes.proofs.NumberLemmas.{number_reads}
use Rattle.tokens.proofs.rows.take_head.Goals as goal

pub returns-clause-text : goal.returns-clause-text
returns-clause-text c =
    let rank = number_reads 255 _ c.in_ok-rank.rank.now (omega arith) (sym c.read_rank.ensures ∙ c.in_ok-read_rank.was) in
    let after = split_parts 58 c.in_ok-rest.rest.now c.in_ok-rank.rank.now c.in_ok-rank.rest.now (sym c.in_ok-rank.ensures) in
    c.in-Some.ensures.text ∙ ap (λ t. code_text c.in-Some.head.0 ++ t) (c.in_ok-rest.ensures ∙ ap (λ t. 58 ∷ t) (after ∙ ap (λ t. t ++ (58 ∷ c.in_ok-rank.rest.now)) rank.1))
