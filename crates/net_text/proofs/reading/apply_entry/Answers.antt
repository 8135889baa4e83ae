use Rattle.std.proofs.Common.{rules}
use Rattle.net_text.proofs.reading.apply_entry.Goals as goal

pub returns-in-Err-OutOfMemory-clause-err : goal.returns-in-Err-OutOfMemory-clause-err
returns-in-Err-OutOfMemory-clause-err c = search rules
