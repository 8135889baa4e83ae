use Rattle.std.proofs.Common.{rules, refl}
use Rattle.desk_console.specs.Does.{Tells, last_told}
use Rattle.beside.proofs.BesideLemmas.{visited}
use Rattle.beside.proofs.visitor.Visitor.last.Goals as goal

pub returns-clause-call : goal.returns-clause-call
returns-clause-call g c = (
  c.args.hub.now.state,
  visited g.N.Naming.seats (λ k. Tells (last_told k.desk c.args.collector) k) c.args.self.now c.args.hub.now.state _ c.visit.new.self c.in_ok-visit.ensures.found (search rules, refl),
)
