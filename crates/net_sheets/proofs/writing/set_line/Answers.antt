use Rattle.std.proofs.Common.{◌∷◌, [], ap, ◌∙◌}
use Rattle.std.specs.Fmt.{decimal}
use Rattle.point_codes.specs.Codes.{code_text}
use Rattle.net_sheets.specs.Tables.{line_text, links_text}
use Rattle.net_sheets.proofs.LineLemmas.{four_line}
use Rattle.net_sheets.proofs.writing.set_line.Goals as goal

pub returns : goal.returns
returns c =
    let set = c.args.set.now in
    c.in_ok-line.ensures.ok ∙ four_line (decimal set.id) (code_text set.a) (code_text set.b) c.as_str-links.result.now
    ∙ ap (λ ls. line_text (decimal set.id ∷ code_text set.a ∷ code_text set.b ∷ ls ∷ [])) (c.as_str-links.ensures.value ∙ c.in_ok-links.ensures ∙ ap links_text (c.as_slice.ensures ∙ c.listed-links.ensures))
