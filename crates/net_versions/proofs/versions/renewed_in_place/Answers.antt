use Rattle.std.proofs.Common.{◌≡◌, List, Some, ap, sym, ◌∙◌, subst, get_or}
use Rattle.std.proofs.lemmas.Result.{IfOk-weaker}
use Rattle.std.specs.Option.{option_map}
use Rattle.net_items.specs.declared.items.Plan.{Plan}
use Rattle.net_items.specs.Lookups.{plan_at}
use Rattle.net_data.specs.Network.{Network}
use Rattle.excerpts.specs.Excerpt.{ExcerptValue, IsRight, content_at, content_of, excerpt_at, excerpt_in}
use Rattle.transfer_state.specs.Routing.{RoutingValue, settled_choices}
use Rattle.transfer_state.proofs.RouteLemmas.{settled_same}
use Rattle.net_versions.specs.Versions.{routing_at}
use Rattle.net_versions.proofs.PlannedLemmas.{kept_content}
use Rattle.net_versions.proofs.versions.renewed_in_place.Goals as goal

pub returns-then-touched : goal.returns-then-touched
returns-then-touched c = IfOk-weaker c.of.result _ _ (λ k is d. is ∙ ap settled_choices (c.in_place-excerpt.ensures d)) c.of.ensures.scratch

-- the choices of a destination whose table reads the same stay
pub returns-in-Some : goal.returns-in-Some
returns-in-Some c =
    let net : Network = c.args.net.now in
    let before : Network = c.args.before.now.network in
    let x : ExcerptValue = c.in_place-excerpt.result in
    let r : RoutingValue = c.in-Some.routing in
    let here : x.plan ≡ get_or net.plans c.args.position x.plan = ap (λ (y : ExcerptValue). y.plan) (c.in_place-excerpt.ensures x.plan) in
    let network : x.network ≡ net = ap (λ (y : ExcerptValue). y.network) (c.in_place-excerpt.ensures x.plan) in
    let planned : plan_at net.plans x.plan.dest ≡ Some x.plan = subst (λ (m : Network). plan_at m.plans x.plan.dest ≡ Some x.plan) network c.validity.ensures.planned in
    let there : excerpt_at net x.plan.dest ≡ Some x
    = ap (option_map (excerpt_in net)) planned ∙ sym (ap (λ (m : Network). Some (record { network = m; plan = x.plan })) network) in
    let reads : content_at net x.plan.dest ≡ content_at before x.plan.dest
    = subst (λ (p : Plan). content_at net p.dest ≡ content_at before p.dest) (sym here) (c.requires.kept c.if-touched.false x.plan) in
    let same : content_of r.excerpt ≡ content_of x = kept_content net before x r there reads (c.in-Some.ensures ∙ ap (routing_at before) c.dest.ensures) in
    IfOk-weaker c.share_choices.result _ _
    (λ k is d. is ∙ settled_same r.excerpt x (subst IsRight c.excerpt.ensures c.validity-in-Some.ensures) c.validity.ensures (sym same) ∙ ap settled_choices (c.in_place-excerpt.ensures d))
    c.share_choices.ensures

pub returns-in-None : goal.returns-in-None
returns-in-None c = IfOk-weaker c.of-in-None.result _ _ (λ k is d. is ∙ ap settled_choices (c.in_place-excerpt.ensures d)) c.of-in-None.ensures.scratch
