use Rattle.std.proofs.Common.{rules}
use Rattle.dirty_sets.proofs.touched.Touched.note.Goals as goal

pub returns-in-SetTfr : goal.returns-in-SetTfr
returns-in-SetTfr c = search rules
