use Rattle.std.proofs.Common.{Some, subst}
use Rattle.std.specs.Prelude.{IfOk}
use Rattle.desk_console.specs.Does.{PostsNext}
use Rattle.net_building.specs.declared.wholes.Listed.TheVariants as listed
use Rattle.beside.specs.Beside.{BesideValue, DoesThere}
use Rattle.beside.specs.Seats.{Goes}
use Rattle.beside.proofs.BesideLemmas.{some_there}
use Rattle.beside.proofs.answering.Beside.post_next.Goals as goal

pub returns-clause-does : goal.returns-clause-does
returns-clause-does g c =
    subst (λ (b : BesideValue). IfOk c.post_next-answer.result (λ answer. DoesThere g.N.Naming.seats (PostsNext c.args.collector c.args.event) b answer c.post_next-answer.new.self)) c.self.view_is
    (some_there g.N.Naming.seats c.post_next-answer.result (PostsNext c.args.collector c.args.event) _ _ c.post_next-answer.new.self c.post_next-answer.ensures.call)

pub returns-clause-goes : goal.returns-clause-goes
returns-clause-goes g c =
    subst (λ (b : BesideValue). Goes g.N.Naming.seats (Some (listed.Event c.args.event)) b c.post_next-answer.new.self) c.self.view_is c.post_next-answer.ensures.goes
