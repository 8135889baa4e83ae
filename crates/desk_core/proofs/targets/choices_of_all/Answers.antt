use Rattle.std.proofs.Common.{◌+◌, ◌++◌, List, ap, ◌∙◌, drop, map}
use Rattle.transfer_state.specs.Routing.{ChoicesValue, RoutingSlotValue, settled_choices}
use Rattle.transfer_state.proofs.TableLemmas.{made_more}
use Rattle.desk_core.proofs.targets.choices_of_all.Goals as goal

pub loop-i-preserved : goal.loop-i-preserved
loop-i-preserved c =
    let f : RoutingSlotValue → ChoicesValue = λ (s : RoutingSlotValue). settled_choices s.excerpt in
    let slots : List RoutingSlotValue = c.args.slots.now in
    let slot : RoutingSlotValue = c.index-slots-i.result in
    ap (λ (l : List ChoicesValue). l ++ map f (drop (c.loop-i.i + 1) slots)) c.in_ok-push.ensures.items
    ∙ made_more f slots c.loop-i.i slot c.loop-i.list.items _ c.in_ok-choices_of.field-0 c.loop-i-test.true (c.in_ok-choices_of.ensures ∙ ap f c.index-slots-i.is) c.loop-i.invariant
