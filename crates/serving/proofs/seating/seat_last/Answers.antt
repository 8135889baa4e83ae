use Rattle.serving.proofs.ListLemmas.{on_ok_to}
use Rattle.serving.proofs.seating.seat_last.Goals as goal

pub returns-in-Some-clause-seated : goal.returns-in-Some-clause-seated
returns-in-Some-clause-seated g c = on_ok_to c.seat_next.result _ _ (λ added. record { channel = c.in-Some.channel; last = c.in-Some.ensures.items; added = added }) c.seat_next.ensures.seated
