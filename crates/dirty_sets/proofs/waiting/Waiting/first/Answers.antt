use Rattle.std.proofs.Common.{rules}
use Rattle.dirty_sets.proofs.waiting.Waiting.first.Goals as goal

pub returns-in_err-dest : goal.returns-in_err-dest
returns-in_err-dest c = search rules

pub returns : goal.returns
returns c = search rules
