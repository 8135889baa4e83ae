use Rattle.std.proofs.Common.{◌++◌, List, sym, ap, ◌∙◌, append-nil}
use Rattle.what_if.proofs.versions.add_unlike.Goals as goal

pub returns-then-is_untold : goal.returns-then-is_untold
returns-then-is_untold g c =
    sym (ap (λ (more : List g.row.D.Denot). c.args.list.now.items ++ more) (c.is_untold.ensures c.if-is_untold.true) ∙ append-nil c.args.list.now.items)
