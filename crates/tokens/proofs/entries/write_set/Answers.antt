use Rattle.std.proofs.Common.{◌∙◌}
use Rattle.std.specs.Fmt.{decimal}
use Rattle.point_codes.specs.Codes.{code_text}
use Rattle.tokens.proofs.JoinLemmas.{set_tails}
use Rattle.tokens.proofs.entries.write_set.Goals as goal

pub returns : goal.returns
returns c =
    let set = c.args.set.now in
    set_tails (decimal set.id) (code_text set.a) (code_text set.b) set.links _ _ _ c.in_ok-text.ensures.ok (c.as_slice.ensures ∙ c.listed-links.ensures) c.in_ok-put_links.ensures
