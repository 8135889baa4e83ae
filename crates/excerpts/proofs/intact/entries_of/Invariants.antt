use Rattle.std.proofs.Common.{◌≡◌, length}
use Rattle.excerpts.proofs.IntactLemmas.{AreNoted}
use Rattle.excerpts.proofs.intact.entries_of.Given as goal

-- the sets so far are noted
abbrev pub invariant-loop-set : goal.invariant-loop-set
invariant-loop-set l = record {
  long : length l.entries.items ≡ 1024;
  noted : AreNoted l.sets l.entries.items l.set-index;
}
