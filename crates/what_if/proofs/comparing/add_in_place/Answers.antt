use Rattle.std.proofs.Common.{◌≡◌, ◌<◌, ◌++◌, List, Some, ap, sym, ◌∙◌, get_or, length, subst}
use Rattle.std.proofs.lemmas.Result.{on_ok_weaker}
use Rattle.net_items.specs.declared.items.Plan.{Plan}
use Rattle.net_data.specs.Network.{Network}
use Rattle.excerpts.specs.Excerpt.{ExcerptValue, excerpt_in}
use Rattle.excerpts.specs.Turned.{HasTurned}
use Rattle.transfer_state.specs.Routing.{RoutingValue}
use Rattle.what_if.specs.Reports.{each_point, told_of_plan}
use Rattle.what_if.proofs.comparing.add_in_place.Goals as goal

-- the plans are those of the version
pub routing_in_place-before-requires : goal.routing_in_place-before-requires
routing_in_place-before-requires g c = subst (λ (plans : List Plan). c.args.position < length plans) c.requires.turned.plans c.requires.position

pub add_followed-requires-clause-dest : goal.add_followed-requires-clause-dest
add_followed-requires-clause-dest g c =
    let d : Plan = c.in_place.result.plan in
    ap (λ (x : ExcerptValue). x.plan.dest) (c.in_place.ensures d)
    ∙ ap (λ (plans : List Plan). (get_or plans c.args.position d).dest) c.requires.turned.plans
    ∙ sym (ap (λ (r : RoutingValue). r.excerpt.plan.dest) (c.routing_in_place-before.ensures d))

pub add_followed-requires-clause-turned : goal.add_followed-requires-clause-turned
add_followed-requires-clause-turned g c =
    let d : Plan = c.in_place.result.plan in
    subst (λ (m : Network). HasTurned m c.in_place.result.network c.args.turned.now) (sym (ap (λ (r : RoutingValue). r.excerpt.network) (c.routing_in_place-before.ensures d)))
    (subst (λ (m : Network). HasTurned c.args.version.now.network m c.args.turned.now) (sym (ap (λ (x : ExcerptValue). x.network) (c.in_place.ensures d))) c.requires.turned)

-- both are of the plan in the place
pub returns : goal.returns
returns g c =
    let old : Network = c.args.version.now.network in
    let new : Network = c.args.net.now in
    let tell = g.D.Difference.told in
    on_ok_weaker c.add_followed.result
    (λ added d.
    let plan : Plan = get_or new.plans c.args.position d in
    let before : c.routing_in_place-before.result.excerpt ≡ excerpt_in old plan
    = ap (λ (r : RoutingValue). r.excerpt) (c.routing_in_place-before.ensures d) ∙ ap (λ (plans : List Plan). excerpt_in old (get_or plans c.args.position d)) (sym c.requires.turned.plans) in
    let after : c.in_place.result ≡ excerpt_in new plan = c.in_place.ensures d in
    added
    ∙ ap (λ (x : ExcerptValue). c.args.list.now.items ++ each_point tell (Some x) (Some c.in_place.result) c.in_place.result.plan.dest) before
    ∙ ap (λ (x : ExcerptValue). c.args.list.now.items ++ each_point tell (Some (excerpt_in old plan)) (Some x) x.plan.dest) after)
    c.add_followed.ensures
