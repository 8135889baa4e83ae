use Rattle.std.proofs.Common.{ap, ◌∙◌, map}
use Rattle.std.specs.Arc.{arc_value}
use Rattle.net_items.specs.declared.items.Plan.{Plan}
use Rattle.net_items.specs.Keyed.{without}
use Rattle.net_items.proofs.ListLemmas.{map_remove}
use Rattle.net_data.proofs.plans.Plans.remove.Goals as goal

pub returns : goal.returns
returns c =
    let found = rw c.as_slice.ensures.value at c.in-Ok.ensures.found in
    ap (map arc_value) c.remove.ensures.items
    ∙ (map_remove arc_value c.self.inside.list.items c.in-Ok.at
    ∙ (found.removes ∙ ap (without (λ (p : Plan). p.dest) c.args.dest) c.self.view_is))
