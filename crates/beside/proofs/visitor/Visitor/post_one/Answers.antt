use Rattle.std.proofs.Common.{Some, subst}
use Rattle.net_data.specs.declared.events.Event.{Event}
use Rattle.net_building.specs.declared.wholes.Listed.TheVariants as listed
use Rattle.beside.specs.Seats.{Goes}
use Rattle.beside.proofs.visitor.Visitor.post_one.Goals as goal

pub returns-in_err-post_next-clause-goes : goal.returns-in_err-post_next-clause-goes
returns-in_err-post_next-clause-goes g c =
    subst (λ (e : Event). Goes g.N.Naming.seats (Some (listed.Event e)) c.args.self.now c.post_next.new.self) c.in_ok-event.ensures.copy c.post_next.ensures.goes

pub returns-clause-goes : goal.returns-clause-goes
returns-clause-goes g c =
    subst (λ (e : Event). Goes g.N.Naming.seats (Some (listed.Event e)) c.args.self.now c.post_next.new.self) c.in_ok-event.ensures.copy c.post_next.ensures.goes
