use Rattle.std.proofs.Common.{Some, subst}
use Rattle.net_building.specs.declared.wholes.Listed.TheVariants as listed
use Rattle.beside.specs.Seats.{Goes}
use Rattle.serving.specs.Seated.{SeatedValue}
use Rattle.serving.proofs.seated.Seated.post_event.Goals as goal

pub returns-then-self-clause-goes : goal.returns-then-self-clause-goes
returns-then-self-clause-goes g c = subst (λ (s : SeatedValue). Goes g.N.Naming.seats (Some (listed.Event c.args.event)) s.beside c.post_next.new.self) c.self.view_is c.post_next.ensures.goes
