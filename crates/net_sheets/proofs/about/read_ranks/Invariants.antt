use Rattle.std.proofs.Common.{◌≡◌, map, take}
use Rattle.net_sheets.specs.declared.about.Entry.TheVariants.{Rank}
use Rattle.net_sheets.proofs.about.read_ranks.Given as goal

abbrev pub invariant-loop-i : goal.invariant-loop-i
invariant-loop-i l = map Rank l.ranks.items ≡ take l.i l.entries
