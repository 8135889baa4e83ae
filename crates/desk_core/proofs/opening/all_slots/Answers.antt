use Rattle.std.proofs.lemmas.Grind.{common_steps}
use Rattle.std.proofs.Common.{◌++◌, ◌<◌, ◌+◌, List, ap, ◌∙◌, arith, length, map, drop}
use Rattle.net_items.specs.declared.items.Plan.{Plan}
use Rattle.net_data.specs.Network.{Network}
use Rattle.transfer_state.specs.Routing.{RoutingSlotValue}
use Rattle.transfer_state.proofs.TableLemmas.{made_more}
use Rattle.dirty_sets.specs.Bits.{is_marked}
use Rattle.desk_core.specs.Targets.{routing_slot_of}
use Rattle.desk_core.proofs.opening.all_slots.Goals as goal

pub loop-position-preserved : goal.loop-position-preserved
loop-position-preserved c =
    let low : c.loop-position.position < length c.args.net.now.plans = omega (arith, c.loop-position-test.true, c.len-position-end.ensures, ap (length {A = Plan}) (c.plans-plans.ensures ∙ ap (λ (n : Network). n.plans) c.net.ensures)) in
    let f : Plan → RoutingSlotValue = routing_slot_of c.args.net.now (is_marked c.args.touched.now) in
    ap (λ (l : List RoutingSlotValue). l ++ map f (drop (c.loop-position.position + 1) c.args.net.now.plans)) c.in_ok-push.ensures.items
    ∙ made_more f c.args.net.now.plans c.loop-position.position c.in_ok-slot_at.field-0.excerpt.plan c.loop-position.slots.items _ c.in_ok-slot_at.field-0 low (c.in_ok-slot_at.ensures c.in_ok-slot_at.field-0.excerpt.plan) c.loop-position.invariant

pub returns : goal.returns
returns c = grind (arith, common_steps)
