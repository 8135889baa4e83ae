use Rattle.std.proofs.Common.{◌≡◌, take, map, string_bytes}
use Rattle.net_sheets.specs.Tables.{sets_header, table_text, set_record}
use Rattle.net_sheets.proofs.writing.write_sets.Given as goal

abbrev pub invariant-loop-set : goal.invariant-loop-set
invariant-loop-set l = string_bytes l.text ≡ table_text sets_header (map set_record (take l.set-index l.net.sets))
