use Rattle.std.proofs.Common.{ap, sym, ◌∙◌}
use Rattle.excerpts.specs.Excerpt.{ExcerptValue, content_of}
use Rattle.transfer_state.proofs.RouteLemmas.{settled_same}
use Rattle.transfer_state.proofs.slots.RoutingSlot.of_same.Goals as goal

pub invariant_of-result : goal.invariant_of-result
invariant_of-result c =
    c.in_ok-choices.ensures
    ∙ settled_same c.args.routing.now.excerpt c.args.excerpt (rw c.excerpt-2.ensures at c.validity-2.ensures) c.validity.ensures c.requires
