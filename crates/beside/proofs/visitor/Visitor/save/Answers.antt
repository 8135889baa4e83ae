use Rattle.std.proofs.Common.{rules, refl}
use Rattle.desk_console.specs.Console.{net_of}
use Rattle.desk_console.specs.Does.{Tells, save_told}
use Rattle.beside.proofs.BesideLemmas.{visited}
use Rattle.beside.proofs.visitor.Visitor.save.Goals as goal

pub returns-clause-call : goal.returns-clause-call
returns-clause-call g c = (
  c.args.hub.now.state,
  visited g.N.Naming.seats (λ k. Tells (save_told c.args.file.now (net_of k)) k) c.args.self.now c.args.hub.now.state _ c.visit.new.self c.in_ok-visit.ensures.found (search rules, refl),
)
