use Rattle.std.proofs.Common.{ap, sym, ◌∙◌}
use Rattle.excerpts.specs.Excerpt.{content_of}
use Rattle.transfer_state.specs.Routing.{RoutingSlotValue}
use Rattle.transfer_state.proofs.RouteLemmas.{settled_same}
use Rattle.transfer_state.proofs.slots.RoutingSlot.fill.Goals as goal

pub invariant_of-self : goal.invariant_of-self
invariant_of-self c =
    c.into_choices.ensures
    ∙ settled_same c.args.routing.excerpt c.self.inside.excerpt c.validity-2.ensures.right c.validity.ensures
    (ap (λ (s : RoutingSlotValue). content_of s.excerpt) c.self.view_is ∙ sym c.requires)
