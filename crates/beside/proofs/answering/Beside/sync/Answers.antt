use Rattle.beside.proofs.BesideLemmas.{came_stays}
use Rattle.beside.proofs.answering.Beside.sync.Goals as goal

pub returns-clause-comes : goal.returns-clause-comes
returns-clause-comes g c = came_stays g.N.Naming.seats _ _ _ c.visit.ensures.comes c.sync_there.ensures.stays
