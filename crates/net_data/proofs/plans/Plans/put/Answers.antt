use Rattle.std.proofs.Common.{ap, refl, ◌∙◌, set, map}
use Rattle.std.proofs.lemmas.List.{map-set}
use Rattle.std.specs.List.{insert}
use Rattle.std.specs.Arc.{arc_value}
use Rattle.net_items.specs.declared.items.Plan.{Plan}
use Rattle.net_items.specs.Keyed.{put}
use Rattle.net_items.proofs.ListLemmas.{map_insert}
use Rattle.net_data.proofs.plans.Plans.put.Goals as goal

pub returns-in-Ok-clause-ok : goal.returns-in-Ok-clause-ok
returns-in-Ok-clause-ok c =
    let found = rw c.as_slice.ensures.value at c.in-Ok.ensures.found in
    let items = c.self.inside.list.items in
    map-set arc_value items c.in-Ok.at c.in_ok-shared.shared
    ∙ (ap (λ p. set (map arc_value items) c.in-Ok.at p) c.in_ok-shared.ensures.ok
    ∙ (found.replaces c.args.plan refl ∙ ap (put (λ (p : Plan). p.dest) c.args.plan) c.self.view_is))

pub returns-in_ok-insert-in-Err-clause-ok : goal.returns-in_ok-insert-in-Err-clause-ok
returns-in_ok-insert-in-Err-clause-ok c =
    let gap = rw c.as_slice.ensures.value at c.in-Err.ensures.absent in
    let items = c.self.inside.list.items in
    ap (map arc_value) c.in_ok-insert-in-Err.ensures.items
    ∙ (map_insert arc_value items c.in-Err.at c.in_ok-shared.shared
    ∙ (ap (λ p. insert (map arc_value items) c.in-Err.at p) c.in_ok-shared.ensures.ok
    ∙ (gap.inserts c.args.plan refl ∙ ap (put (λ (p : Plan). p.dest) c.args.plan) c.self.view_is)))
