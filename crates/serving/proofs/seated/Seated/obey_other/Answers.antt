use Rattle.std.proofs.Common.{subst}
use Rattle.desk_console.specs.Taken.{posts_of}
use Rattle.beside.specs.Seats.{Goes}
use Rattle.serving.specs.Seated.{SeatedValue}
use Rattle.serving.proofs.seated.Seated.obey_other.Goals as goal

pub returns-else-not-self-clause-goes : goal.returns-else-not-self-clause-goes
returns-else-not-self-clause-goes g c = subst (λ (s : SeatedValue). Goes g.N.Naming.seats (posts_of c.args.command) s.beside c.obey.new.self) c.self.view_is c.obey.ensures.goes
