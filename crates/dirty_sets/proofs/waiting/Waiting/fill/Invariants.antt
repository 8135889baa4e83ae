use Rattle.std.proofs.Common.{◌≡◌, ◌<◌, ◌≤◌, drop, length, reverse}
use Rattle.std.specs.List.{AllByRecursion}
use Rattle.dirty_sets.proofs.WaitingEntryLemmas.{waiting_entries}
use Rattle.dirty_sets.proofs.waiting.Waiting.fill.Given as goal

-- those from the place on are the entries, from the last
abbrev pub invariant-loop-left : goal.invariant-loop-left
invariant-loop-left l = record {
  filled : l.entries.entries ≡ waiting_entries (reverse (drop l.left l.dests));
  in_range : l.left ≤ length l.dests;
  small : AllByRecursion (λ e. e.0 < 16384) l.entries.entries;
}

abbrev pub decreases-loop-left : goal.decreases-loop-left
decreases-loop-left l = l.left
