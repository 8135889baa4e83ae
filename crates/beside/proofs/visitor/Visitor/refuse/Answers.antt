use Rattle.std.proofs.Common.{rules, refl}
use Rattle.desk_console.specs.Does.{Tells}
use Rattle.answers.specs.Replies.{refused}
use Rattle.beside.proofs.BesideLemmas.{visited}
use Rattle.beside.proofs.visitor.Visitor.refuse.Goals as goal

pub returns-clause-refused : goal.returns-clause-refused
returns-clause-refused g c =
    visited g.N.Naming.seats (Tells (refused c.args.refusal)) c.args.self.now c.args.hub.now.state _ c.visit.new.self c.in_ok-visit.ensures.found (search rules, refl)
