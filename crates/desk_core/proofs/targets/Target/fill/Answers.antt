use Rattle.std.proofs.Common.{◌≡◌, ap, ◌∙◌, subst, Some, List}
use Rattle.net_items.specs.Keyed.{IsRising, IsFoundAt, IsGapAt}
use Rattle.net_items.specs.declared.items.Plan.{Plan}
use Rattle.excerpts.specs.Excerpt.{content_at, content_of}
use Rattle.transfer_state.specs.Routing.{RoutingSlotValue, RoutingValue}
use Rattle.desk_core.specs.Targets.{TargetValue}
use Rattle.desk_core.specs.declared.targets.Parts.{Parts}
use Rattle.desk_core.proofs.TargetLemmas.{slots_rise, found_content, nowhere_content, filled-done}
use Rattle.desk_core.proofs.targets.Target.fill.Goals as goal

pub position_of_slot-requires : goal.position_of_slot-requires
position_of_slot-requires c =
    let rise = subst (λ (p : Parts). IsRising (λ (p : Plan). p.dest) p.net.plans) c.deref_mut-parts.ensures.value c.validity.ensures.plans_rise in
    rw (c.as_slice.ensures.value, c.deref_mut-parts.ensures.value) (slots_rise c.self.inside.parts.value.net c.self.inside.parts.value.waiting c.self.inside.parts.value.slots.items c.self.invariant.filled rise)

pub fill-requires : goal.fill-requires
fill-requires c =
    let net = c.self.inside.parts.value.net in
    let slots = c.self.inside.parts.value.slots.items in
    let x = c.dest-dest.result in
    let rise = subst (λ (p : Parts). IsRising (λ (p : Plan). p.dest) p.net.plans) c.deref_mut-parts.ensures.value c.validity.ensures.plans_rise in
    let list = c.as_slice.ensures.value ∙ ap (λ (p : Parts). p.slots.items) c.deref_mut-parts.ensures.value in
    let at : content_at net x ≡ Some (content_of c.args.settled.excerpt)
    = ap (content_at net) c.dest-dest.ensures ∙ ap (λ (t : TargetValue). content_at t.network c.args.settled.excerpt.plan.dest) c.self.view_is ∙ c.requires.same in
    let found : IsFoundAt (λ (s : RoutingSlotValue). s.excerpt.plan.dest) x slots c.in-Ok.at = subst (λ (ss : List RoutingSlotValue). IsFoundAt (λ (s : RoutingSlotValue). s.excerpt.plan.dest) x ss c.in-Ok.at) list c.in-Ok.ensures.found in
    ap (λ (r : RoutingValue). content_of r.excerpt) c.into_routing.ensures
    ∙ found_content net c.self.inside.parts.value.waiting slots c.self.invariant.filled rise x c.in-Ok.at c.index_mut.result.now (content_of c.args.settled.excerpt) found (rw (← c.deref_mut-parts.ensures.value) c.index_mut.ensures.value) at

pub unreachable-requires : goal.unreachable-requires
unreachable-requires c =
    let net = c.self.inside.parts.value.net in
    let slots = c.self.inside.parts.value.slots.items in
    let x = c.dest-dest.result in
    let rise = subst (λ (p : Parts). IsRising (λ (p : Plan). p.dest) p.net.plans) c.deref_mut-parts.ensures.value c.validity.ensures.plans_rise in
    let list = c.as_slice.ensures.value ∙ ap (λ (p : Parts). p.slots.items) c.deref_mut-parts.ensures.value in
    let at : content_at net x ≡ Some (content_of c.args.settled.excerpt)
    = ap (content_at net) c.dest-dest.ensures ∙ ap (λ (t : TargetValue). content_at t.network c.args.settled.excerpt.plan.dest) c.self.view_is ∙ c.requires.same in
    let gap : IsGapAt (λ (s : RoutingSlotValue). s.excerpt.plan.dest) x slots c.in-Err.field-0 = subst (λ (ss : List RoutingSlotValue). IsGapAt (λ (s : RoutingSlotValue). s.excerpt.plan.dest) x ss c.in-Err.field-0) list c.in-Err.ensures.absent in
    nowhere_content net c.self.inside.parts.value.waiting slots c.self.invariant.filled rise x c.in-Err.field-0 (content_of c.args.settled.excerpt) gap at

pub invariant_of-self : goal.invariant_of-self
invariant_of-self c =
    let net = c.self.inside.parts.value.net in
    let slots = c.self.inside.parts.value.slots.items in
    let x = c.dest-dest.result in
    let rise = subst (λ (p : Parts). IsRising (λ (p : Plan). p.dest) p.net.plans) c.deref_mut-parts.ensures.value c.validity.ensures.plans_rise in
    let list = c.as_slice.ensures.value ∙ ap (λ (p : Parts). p.slots.items) c.deref_mut-parts.ensures.value in
    let found : IsFoundAt (λ (s : RoutingSlotValue). s.excerpt.plan.dest) x slots c.in-Ok.at = subst (λ (ss : List RoutingSlotValue). IsFoundAt (λ (s : RoutingSlotValue). s.excerpt.plan.dest) x ss c.in-Ok.at) list c.in-Ok.ensures.found in
    record {
      filled = rw (c.done.ensures, c.fill.ensures, c.deref_mut-parts.ensures.value) (filled-done net c.self.inside.parts.value.waiting slots c.self.invariant.filled rise x c.in-Ok.at c.index_mut.result.now found (rw (← c.deref_mut-parts.ensures.value) c.index_mut.ensures.value));
      differs = rw (c.deref_mut-parts.ensures.value) c.self.invariant.differs;
    }
