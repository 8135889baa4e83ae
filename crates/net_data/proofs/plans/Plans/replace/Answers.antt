use Rattle.std.proofs.Common.{ap, ◌∙◌, sym}
use Rattle.std.proofs.lemmas.List.{map-set}
use Rattle.std.specs.Arc.{arc_value}
use Rattle.net_items.specs.declared.items.Plan.{Plan}
use Rattle.net_items.specs.Keyed.{put}
use Rattle.net_data.proofs.plans.Plans.replace.Goals as goal

pub returns : goal.returns
returns c =
    let found = rw c.as_slice.ensures.value at c.in-Ok.ensures.found in
    map-set arc_value c.self.inside.list.items c.in-Ok.at c.args.plan
    ∙ (found.replaces (arc_value c.args.plan) (ap (λ (p : Plan). p.dest) (sym c.deref.ensures)) ∙ ap (put (λ (p : Plan). p.dest) (arc_value c.args.plan)) c.self.view_is)
