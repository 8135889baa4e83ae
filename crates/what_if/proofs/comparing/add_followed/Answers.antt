use Rattle.std.proofs.Common.{◌≡◌, ◌++◌, [], Some, List, sym, ap, ◌∙◌, append-nil}
use Rattle.what_if.specs.Reports.{each_point}
use Rattle.what_if.proofs.UnchangedLemmas.{none_told}
use Rattle.what_if.proofs.comparing.add_followed.Goals as goal

pub returns-then-keeps_choices : goal.returns-then-keeps_choices
returns-then-keeps_choices g c =
    let x = Some c.args.before.now.excerpt in
    let y = Some c.args.excerpt.now in
    let dest = c.args.excerpt.now.plan.dest in
    let none : each_point g.D.Difference.told x y dest ≡ []
    = none_told g.D.Difference.told x y dest (λ point. c.stays.ensures x y dest point (c.keeps_choices.ensures c.if-keeps_choices.true point)) in
    sym (ap (λ (more : List g.row.D.Denot). c.args.list.now.items ++ more) none ∙ append-nil c.args.list.now.items)
