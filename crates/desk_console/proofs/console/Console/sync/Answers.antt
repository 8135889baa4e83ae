use Rattle.std.proofs.Common.{rules}
use Rattle.desk_console.proofs.console.Console.sync.Goals as goal

pub returns : goal.returns
returns c = search rules
