use Rattle.std.proofs.Common.{ap, sym, ◌∙◌}
use Rattle.transfer_state.specs.Kept.{KeptValue}
use Rattle.transfer_state.proofs.FollowLemmas.{far_found, far_gap}
use Rattle.transfer_state.proofs.choosing.far_by_choices.Goals as goal

pub returns-in-Ok : goal.returns-in-Ok
returns-in-Ok c = c.status.ensures ∙ (ap (λ (k : KeptValue). k.status) c.index-choices-at.is ∙ far_found c.args.e.now c.validity.ensures c.args.choices.now c.in-Ok.at c.args.code c.index-choices-at.result c.in-Ok.ensures.found c.requires (rw c.dest.ensures at (sym c.eq.ensures ∙ c.if-eq.false)))

pub returns-in-Err : goal.returns-in-Err
returns-in-Err c = far_gap c.args.e.now c.validity.ensures c.args.choices.now c.args.code c.in-Err.field-0 c.in-Err.ensures.absent (rw c.dest.ensures at (sym c.eq.ensures ∙ c.if-eq.false))
