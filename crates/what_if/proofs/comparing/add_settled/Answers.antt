use Rattle.std.proofs.Common.{◌≡◌, ◌++◌, [], List, sym, ap, ◌∙◌, append-nil}
use Rattle.std.specs.Option.{option_copied}
use Rattle.transfer_state.specs.Routing.{routed_excerpt}
use Rattle.excerpts.specs.Excerpt.{excerpt_at}
use Rattle.what_if.specs.Reports.{each_point}
use Rattle.what_if.proofs.UnchangedLemmas.{none_told}
use Rattle.what_if.proofs.comparing.add_settled.Goals as goal

pub returns-then-reads_the_same : goal.returns-then-reads_the_same
returns-then-reads_the_same g c =
    let x = routed_excerpt (option_copied c.args.before) in
    let y = excerpt_at c.args.net.now c.args.dest in
    let none : each_point g.D.Difference.told x y c.args.dest ≡ []
    = none_told g.D.Difference.told x y c.args.dest (λ point. c.stays.ensures x y c.args.dest point (c.reads_the_same.ensures c.if-reads_the_same.true point)) in
    sym (ap (λ (more : List g.row.D.Denot). c.args.list.now.items ++ more) none ∙ append-nil c.args.list.now.items)
