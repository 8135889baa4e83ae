use Rattle.std.proofs.Common.{ap, ◌∙◌}
use Rattle.net_data.specs.declared.events.Event.TheVariants.{SetPlan}
use Rattle.net_sheets.proofs.FaultLemmas.{bare_told}
use Rattle.net_sheets.proofs.bare.add_one.Goals as goal

pub returns-in-Err-clause-err : goal.returns-in-Err-clause-err
returns-in-Err-clause-err c =
    bare_told c.args.net.now c.args.dest c.in_ok-event.event c.in-Err.refusal c.refused.result (c.in_ok-event.ensures ∙ ap (λ rows. SetPlan (record { dest = c.args.dest; rows = rows })) c.new.ensures.items) c.in-Err.ensures.err c.refused.ensures
