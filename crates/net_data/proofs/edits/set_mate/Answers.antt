use Rattle.std.proofs.Common.{ap, ◌∙◌, set}
use Rattle.net_items.specs.declared.items.Point.{Point}
use Rattle.net_data.specs.Edits.{with_mate}
use Rattle.net_data.proofs.edits.set_mate.Goals as goal

-- the search found the point, and the write there is the edit
pub returns : goal.returns
returns c =
    let found = rw c.deref.ensures.value at c.in-Ok.ensures.found in
    ap (λ (p : Point). set c.args.points.now.items c.in-Ok.at (with_mate c.args.mate p)) c.index-point.ensures ∙ found.edits (with_mate c.args.mate) c.index-point.result.now
