use Rattle.std.proofs.Common.{length}
use Rattle.desk_console.proofs.watching.+find_kept.Given as goal

abbrev pub decreases-find_kept : goal.decreases-find_kept
decreases-find_kept l = length l.kept.now
