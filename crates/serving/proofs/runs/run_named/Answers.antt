use Rattle.std.proofs.Common.{◌+◌, ◌∙◌, ap, subst, sym}
use Rattle.histories.specs.Histories.{IsOpening}
use Rattle.versions.specs.Hubs.{HubValue}
use Rattle.serving.specs.Sittings.{seat_at}
use Rattle.serving.proofs.runs.run_named.Goals as goal

pub run_at-requires-clause-seats : goal.run_at-requires-clause-seats
run_at-requires-clause-seats g c κs within = λ j d low.
    c.requires.seats j d low ∙ (λ i. seat_at (c.requires.names.1 i) (sym (ap (λ (h : HubValue). h.state) c.in-Ok.ensures.hub) i) (j + 1))

pub returns-in-Ok-clause-served : goal.returns-in-Ok-clause-served
returns-in-Ok-clause-served g c = λ net opening. c.run_at.ensures.served net (subst (IsOpening net) (sym (ap (λ (h : HubValue). h.state) c.in-Ok.ensures.hub)) opening)
