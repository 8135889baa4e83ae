use Rattle.std.proofs.Common.{◌∙◌, ap, arith, rules, sym}
use Rattle.std.proofs.lemmas.Bool.{eqb-true}
use Rattle.std.proofs.lemmas.List.{get_or_read}
use Rattle.std.proofs.lemmas.List.Sorted.{answers_always}
use Rattle.transfer_state.specs.Routing.{RoutingSlotValue}
use Rattle.net_items.proofs.KeyedLemmas.{found_here, searched}
use Rattle.desk_core.proofs.targets.position_of_slot.Goals as goal

-- the slot that was looked at first is the destination's
pub returns-then-eq-clause-found : goal.returns-then-eq-clause-found
returns-then-eq-clause-found c =
    let slot = c.index-slots-first.result in
    found_here (λ (s : RoutingSlotValue). s.excerpt.plan.dest) c.args.dest c.args.slots.now c.args.first c.requires (omega arith)
    (λ d. ap (λ (s : RoutingSlotValue). s.excerpt.plan.dest) (sym (get_or_read c.args.slots.now c.args.first slot (omega arith) c.index-slots-first.is d))
    ∙ sym c.dest.ensures ∙ eqb-true _ c.args.dest (sym c.eq.ensures ∙ c.if-eq.true))

pub returns-clause-found : goal.returns-clause-found
returns-clause-found c =
    let facts = c.binary_search_by_key.ensures in
    (searched (λ (s : RoutingSlotValue). s.excerpt.plan.dest) c.args.dest _ c.requires _ facts.bound (facts.position (λ (s : RoutingSlotValue). s.excerpt.plan.dest) (answers_always _ _ _ (λ f a r g called. search rules)))).found

pub returns-clause-absent : goal.returns-clause-absent
returns-clause-absent c =
    let facts = c.binary_search_by_key.ensures in
    (searched (λ (s : RoutingSlotValue). s.excerpt.plan.dest) c.args.dest _ c.requires _ facts.bound (facts.position (λ (s : RoutingSlotValue). s.excerpt.plan.dest) (answers_always _ _ _ (λ f a r g called. search rules)))).absent
