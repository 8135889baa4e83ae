use Rattle.std.proofs.Common.{◌≡◌, ◌<◌, List, sym, ap, ◌∙◌, subst, length}
use Rattle.net_items.specs.declared.items.Plan.{Plan}
use Rattle.net_items.specs.Keyed.{IsRising, IsFoundAt, IsGapAt}
use Rattle.net_data.specs.Network.{Network}
use Rattle.transfer_state.specs.Routing.{ChoicesValue}
use Rattle.net_versions.specs.Versions.{VersionValue, routing_at}
use Rattle.net_versions.proofs.PlannedLemmas.{choices_rise, found_plan, routing_found, routing_absent}
use Rattle.net_versions.proofs.versions.Version.routing.Goals as goal

pub position_of_choices-requires : goal.position_of_choices-requires
position_of_choices-requires c =
    subst (IsRising (λ (k : ChoicesValue). k.dest)) (sym (c.as_slice.ensures.value ∙ ap (λ v. v.items) c.deref-2.ensures ∙ c.self.invariant)) (choices_rise c.self.inside.net c.validity.ensures.plans_rise)

-- the place of what is kept is the plan's
pub routing_in_place-requires : goal.routing_in_place-requires
routing_in_place-requires c =
    let found : IsFoundAt (λ (k : ChoicesValue). k.dest) c.args.dest _ c.in-Ok.at
    = subst (λ (list : List ChoicesValue). IsFoundAt (λ (k : ChoicesValue). k.dest) c.args.dest list c.in-Ok.at) (c.as_slice.ensures.value ∙ ap (λ v. v.items) c.deref-2.ensures ∙ c.self.invariant) c.in-Ok.ensures.found in
    subst (λ (net : Network). c.in-Ok.at < length net.plans) (ap (λ (v : VersionValue). v.network) c.self.view_is) (found_plan c.self.inside.net c.args.dest c.in-Ok.at c.validity.ensures.plans_rise found).in_range

pub returns-in-Ok : goal.returns-in-Ok
returns-in-Ok c =
    let network = ap (λ (v : VersionValue). v.network) c.self.view_is in
    let found : IsFoundAt (λ (k : ChoicesValue). k.dest) c.args.dest _ c.in-Ok.at
    = subst (λ (list : List ChoicesValue). IsFoundAt (λ (k : ChoicesValue). k.dest) c.args.dest list c.in-Ok.at) (c.as_slice.ensures.value ∙ ap (λ v. v.items) c.deref-2.ensures ∙ c.self.invariant) c.in-Ok.ensures.found in
    let place : IsFoundAt (λ (p : Plan). p.dest) c.args.dest c.args.self.now.network.plans c.in-Ok.at
    = subst (λ (net : Network). IsFoundAt (λ (p : Plan). p.dest) c.args.dest net.plans c.in-Ok.at) network (found_plan c.self.inside.net c.args.dest c.in-Ok.at c.validity.ensures.plans_rise found) in
    routing_found c.args.self.now.network c.args.dest c.in-Ok.at place c.routing_in_place.result c.routing_in_place.ensures

pub returns-in-Err : goal.returns-in-Err
returns-in-Err c =
    let gap : IsGapAt (λ (k : ChoicesValue). k.dest) c.args.dest _ c.in-Err.field-0
    = subst (λ (list : List ChoicesValue). IsGapAt (λ (k : ChoicesValue). k.dest) c.args.dest list c.in-Err.field-0) (c.as_slice.ensures.value ∙ ap (λ v. v.items) c.deref-2.ensures ∙ c.self.invariant) c.in-Err.ensures.absent in
    routing_absent c.self.inside.net c.args.dest gap.absent ∙ ap (λ (v : VersionValue). routing_at v.network c.args.dest) c.self.view_is
