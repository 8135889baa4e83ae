use Rattle.std.proofs.Common.{◌≡◌, ◌<◌, List, ap, sym, ◌∙◌, arith, get_or, length, subst}
use Rattle.std.proofs.lemmas.List.{get_or-map, length-map}
use Rattle.std.specs.Arc.{arc_value}
use Rattle.net_items.specs.declared.items.Plan.{Plan}
use Rattle.net_data.specs.Network.{Network}
use Rattle.excerpts.specs.Excerpt.{excerpt_in}
use Rattle.transfer_state.specs.Routing.{ChoicesValue, settled_choices, settled_routing}
use Rattle.net_versions.specs.Versions.{VersionValue, all_choices}
use Rattle.net_versions.proofs.versions.Version.routing_in_place.Goals as goal

pub in_place-requires : goal.in_place-requires
in_place-requires c = subst (λ (net : Network). c.args.position < length net.plans) (sym (ap (λ (v : VersionValue). v.network) c.self.view_is)) c.requires

pub index-requires : goal.index-requires
index-requires c =
    let net : Network = c.self.inside.net in
    let within : c.args.position < length net.plans = subst (λ (n : Network). c.args.position < length n.plans) (sym (ap (λ (v : VersionValue). v.network) c.self.view_is)) c.requires in
    let same : length (arc_value c.self.inside.choices).items ≡ length net.plans
    = ap (length {A = ChoicesValue}) c.self.invariant ∙ length-map net.plans (λ (p : Plan). settled_choices (excerpt_in net p)) in
    rw c.deref.ensures (omega (arith, within, same))

-- what is kept in the place is the plan's
pub by-requires : goal.by-requires
by-requires c =
    let net : Network = c.self.inside.net in
    let keeps : Plan → ChoicesValue = λ p. settled_choices (excerpt_in net p) in
    let kept : ChoicesValue = c.index.result.now in
    let d : Plan = c.in_place.result.plan in
    let within : c.args.position < length net.plans = subst (λ (n : Network). c.args.position < length n.plans) (sym (ap (λ (v : VersionValue). v.network) c.self.view_is)) c.requires in
    c.index.ensures ∙ ap (λ (list : List ChoicesValue). get_or list c.args.position kept) (ap (λ v. v.items) c.deref.ensures ∙ c.self.invariant)
    ∙ get_or-map keeps net.plans c.args.position d kept within ∙ ap settled_choices (sym (c.in_place.ensures d))

pub returns : goal.returns
returns c = λ d.
    c.by.ensures ∙ ap settled_routing (c.in_place.ensures d)
    ∙ ap (λ (net : Network). settled_routing (excerpt_in net (get_or net.plans c.args.position d))) (ap (λ (v : VersionValue). v.network) c.self.view_is)
