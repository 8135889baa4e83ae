use Rattle.std.proofs.Common.{◌≡◌, ◌+◌, ◌∙◌, arith, length, subst, sym}
use Rattle.std.specs.Prelude.{vec_len}
use Rattle.histories.specs.Histories.{IsOpening}
use Rattle.serving.specs.Sittings.{seat_at}
use Rattle.serving.proofs.runs.run_unnamed.Goals as goal

pub run_named-requires-clause-seats : goal.run_named-requires-clause-seats
run_named-requires-clause-seats g c κs within = λ j d low.
    let ok : vec_len c.in-Ok.seats ≡ length c.in-Ok.seats.items = c.in-Ok.seats.ok.0 in
    let count = c.in-Ok.ensures.admitted.count in
    c.in-Ok.ensures.admitted.each j d (omega arith) ∙ (λ i. seat_at (sym c.in-Ok.ensures.admitted.table i) (sym c.in-Ok.ensures.admitted.state i) (j + 1))

pub returns-in-Ok-clause-served : goal.returns-in-Ok-clause-served
returns-in-Ok-clause-served g c = λ net opening. c.run_named.ensures.served net (subst (IsOpening net) (sym c.in-Ok.ensures.admitted.state) opening)
