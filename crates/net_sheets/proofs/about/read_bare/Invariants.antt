use Rattle.std.proofs.Common.{◌≡◌, map, take, vec_len}
use Rattle.net_sheets.specs.declared.about.Entry.TheVariants.{Bare}
use Rattle.net_sheets.proofs.about.read_bare.Given as goal

abbrev pub invariant-loop-entry : goal.invariant-loop-entry
invariant-loop-entry l = record { told : map Bare l.bare.items ≡ take l.entry-index l.entries; many : vec_len l.bare ≡ l.entry-index }
