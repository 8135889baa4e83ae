use Rattle.std.proofs.Common.{◌≡◌, Some, List, ap, sym, ◌∙◌, subst, get_or}
use Rattle.std.proofs.lemmas.List.{get_or_default}
use Rattle.net_items.specs.declared.items.Plan.{Plan}
use Rattle.net_items.specs.Lookups.{plan_at}
use Rattle.net_data.specs.Network.{Network}
use Rattle.dirty_sets.specs.Bits.{is_marked}
use Rattle.excerpts.proofs.PlaceLemmas.{found_in_place}
use Rattle.desk_core.specs.Targets.{routing_slot_of}
use Rattle.desk_core.proofs.OpeningLemmas.{planned_is, slot_is}
use Rattle.desk_core.proofs.opening.slot_at.Goals as goal

pub slot_for-requires-clause-planned : goal.slot_for-requires-clause-planned
slot_for-requires-clause-planned c =
    let net : Network = c.args.net.now in
    let d : Plan = c.at.result.now in
    let here : d ≡ get_or net.plans c.args.position d = c.at.ensures ∙ ap (λ (ps : List Plan). get_or ps c.args.position d) (c.plans.ensures ∙ ap (λ (n : Network). n.plans) c.net.ensures) in
    planned_is net d d.dest (subst (λ (q : Plan). plan_at net.plans q.dest ≡ Some q) (sym here) (found_in_place (λ (p : Plan). p.dest) net.plans c.args.position d c.validity.ensures.plans_rise c.requires.position))

pub returns-in-Ok : goal.returns-in-Ok
returns-in-Ok c =
    let net : Network = c.args.net.now in
    let d : Plan = c.at.result.now in
    let here : d ≡ get_or net.plans c.args.position d = c.at.ensures ∙ ap (λ (ps : List Plan). get_or ps c.args.position d) (c.plans.ensures ∙ ap (λ (n : Network). n.plans) c.net.ensures) in
    let there : plan_at net.plans d.dest ≡ Some d = subst (λ (q : Plan). plan_at net.plans q.dest ≡ Some q) (sym here) (found_in_place (λ (p : Plan). p.dest) net.plans c.args.position d c.validity.ensures.plans_rise c.requires.position) in
    λ other. slot_is net d _ c.in-Ok.slot there c.in-Ok.ensures ∙ ap (routing_slot_of net (is_marked c.args.touched.now)) (here ∙ get_or_default net.plans c.args.position d other c.requires.position)
