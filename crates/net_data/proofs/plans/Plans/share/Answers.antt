use Rattle.std.proofs.Common.{◌≡◌, ◌<◌, Some, ap, sym, ◌∙◌, get_or, map, length}
use Rattle.std.proofs.lemmas.List.{get_or-map, length-map}
use Rattle.std.specs.Arc.{arc_value}
use Rattle.net_items.specs.Lookups.{plan_at}
use Rattle.net_data.proofs.plans.Plans.share.Goals as goal

-- the place has the value that is found
pub returns-in_ok-try_clone-in-Ok-clause-ok : goal.returns-in_ok-try_clone-in-Ok-clause-ok
returns-in_ok-try_clone-in-Ok-clause-ok c =
    let found = rw c.as_slice.ensures.value at c.in-Ok.ensures.found in
    let within : c.in-Ok.at < length c.self.inside.list.items = rw length-map at found.in_range in
    let plan = arc_value c.in_ok-try_clone-in-Ok.field-0 in
    let here : get_or (map arc_value c.self.inside.list.items) c.in-Ok.at plan ≡ plan =
    get_or-map arc_value c.self.inside.list.items c.in-Ok.at c.index.result.now plan within ∙ (ap arc_value (sym c.index.ensures) ∙ sym c.in_ok-try_clone-in-Ok.ensures) in
    sym (ap (λ ps. plan_at ps c.args.dest) (sym c.self.view_is) ∙ (found.finds plan ∙ ap Some here))
