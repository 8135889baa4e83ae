use Rattle.std.proofs.Common.{◌≡◌, map, drop}
use Rattle.csv.specs.Records.{fields_of}
use Rattle.net_sheets.specs.Values.{all_read}
use Rattle.net_sheets.specs.About.{entry_of}
use Rattle.net_sheets.proofs.ValueLemmas.{after}
use Rattle.net_sheets.proofs.about.read_entries.Given as goal

-- what was read and what is left to read give what all gives
abbrev pub invariant-loop-i : goal.invariant-loop-i
invariant-loop-i l = after l.entries.items (all_read entry_of (map fields_of (drop l.i l.table))) ≡ all_read entry_of (map fields_of l.table)
