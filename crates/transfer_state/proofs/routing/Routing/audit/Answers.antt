use Rattle.std.proofs.Common.{ap, ◌∙◌}
use Rattle.excerpts.specs.Excerpt.{source_of}
use Rattle.transfer_state.specs.Routing.{ChoicesValue}
use Rattle.transfer_state.proofs.AuditLemmas.{chosen_settled, no_complaint}
use Rattle.transfer_state.proofs.routing.Routing.audit.Goals as goal

pub returns : goal.returns
returns c =
    no_complaint (source_of c.self.inside.excerpt) c.as_slice.result.now c.check_kept.result
    (chosen_settled c.self.inside.excerpt c.validity.ensures _ (c.as_slice.ensures ∙ ap (λ (k : ChoicesValue). k.kept) c.self.invariant)) c.check_kept.ensures.wrong
