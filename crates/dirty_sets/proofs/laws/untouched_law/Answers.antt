use Rattle.dirty_sets.proofs.UntouchedLemmas.{law}
use Rattle.dirty_sets.proofs.laws.untouched_law.Goals as goal

pub returns : goal.returns
returns c = law
