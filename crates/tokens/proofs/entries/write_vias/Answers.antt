use Rattle.std.proofs.Common.{ap, ◌∙◌}
use Rattle.point_codes.specs.Codes.{code_text}
use Rattle.tokens.specs.Rows.{vias_text}
use Rattle.tokens.proofs.JoinLemmas.{tails_made}
use Rattle.tokens.proofs.entries.write_vias.Goals as goal

pub returns-in_ok-put_vias-in-len1-up : goal.returns-in_ok-put_vias-in-len1-up
returns-in_ok-put_vias-in-len1-up c =
    tails_made 43 code_text c.as_slice.result.now c.via-item.result _ _ c.in-len1-up.len_at_least c.via-item.is c.in_ok-text-in-len1-up.ensures.ok c.in_ok-put_vias-in-len1-up.ensures
    ∙ ap vias_text c.as_slice.ensures
