use Rattle.std.proofs.Common.{subst}
use Rattle.std.specs.Prelude.{OnOk}
use Rattle.beside.specs.Beside.{BesideValue, Visits}
use Rattle.beside.proofs.BesideLemmas.{came_somewhere}
use Rattle.beside.proofs.answering.Beside.visit.Goals as goal

pub returns-clause-visits : goal.returns-clause-visits
returns-clause-visits g c =
    subst (λ (b : BesideValue). OnOk c.visit.result (Visits g.N.Naming.seats b c.visit.new.self)) c.self.view_is
    (came_somewhere c.visit.result g.N.Naming.seats _ _ c.visit.new.self c.visit.ensures.found)
