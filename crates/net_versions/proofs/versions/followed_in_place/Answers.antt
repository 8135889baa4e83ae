use Rattle.std.proofs.Common.{◌≡◌, ◌<◌, List, ap, sym, ◌∙◌, get_or, length, subst}
use Rattle.std.proofs.lemmas.Result.{IfOk-weaker}
use Rattle.net_items.specs.declared.items.Plan.{Plan}
use Rattle.net_data.specs.Network.{Network}
use Rattle.excerpts.specs.Excerpt.{ExcerptValue, excerpt_in}
use Rattle.excerpts.specs.Turned.{HasTurned}
use Rattle.transfer_state.specs.Routing.{RoutingValue, settled_choices}
use Rattle.net_versions.proofs.versions.followed_in_place.Goals as goal

-- the plans are those of the version before
pub routing_in_place-routing-requires : goal.routing_in_place-routing-requires
routing_in_place-routing-requires c = subst (λ (plans : List Plan). c.args.position < length plans) c.requires.turned.plans c.requires.position

pub follow-requires-clause-dest : goal.follow-requires-clause-dest
follow-requires-clause-dest c =
    let net : Network = c.args.net.now in
    let before : Network = c.args.before.now.network in
    let d : Plan = c.in_place.result.plan in
    ap (λ (x : ExcerptValue). x.plan.dest) (c.in_place.ensures d)
    ∙ ap (λ (plans : List Plan). (get_or plans c.args.position d).dest) c.requires.turned.plans
    ∙ sym (ap (λ (r : RoutingValue). r.excerpt.plan.dest) (c.routing_in_place-routing.ensures d))

pub follow-requires-clause-turned : goal.follow-requires-clause-turned
follow-requires-clause-turned c =
    let d : Plan = c.in_place.result.plan in
    subst (λ (m : Network). HasTurned m c.in_place.result.network c.args.turned.now) (sym (ap (λ (r : RoutingValue). r.excerpt.network) (c.routing_in_place-routing.ensures d)))
    (subst (λ (m : Network). HasTurned c.args.before.now.network m c.args.turned.now) (sym (ap (λ (x : ExcerptValue). x.network) (c.in_place.ensures d))) c.requires.turned)

pub returns : goal.returns
returns c = IfOk-weaker c.follow.result _ _ (λ k is d. is ∙ ap settled_choices (c.in_place.ensures d)) c.follow.ensures
