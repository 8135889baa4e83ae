use Rattle.std.proofs.Common.{ℕ, Vec, Global, subst}
use Rattle.std.specs.Prelude.{IfOk}
use Rattle.beside.specs.Beside.{BesideValue, CountsSeats}
use Rattle.beside.proofs.BesideLemmas.{counts_somewhere}
use Rattle.beside.proofs.answering.Beside.count.Goals as goal

pub returns-clause-counts : goal.returns-clause-counts
returns-clause-counts g c =
    subst (λ (b : BesideValue). IfOk c.count.result (λ counts. CountsSeats g.N.Naming.seats b counts.items c.count.new.self)) c.self.view_is
    (counts_somewhere c.count.result (λ (counts : Vec ℕ Global). counts.items) g.N.Naming.seats _ _ _ c.count.ensures.found c.count.ensures.counts)
