use Rattle.std.proofs.Common.{◌≡◌, ◌<◌, ℕ, [], get_or, map}
use Rattle.csv.specs.Records.{fields_of}
use Rattle.net_sheets.specs.Records.{field}
use Rattle.net_sheets.proofs.records.is_header.Given as goal

abbrev pub invariant-loop-i : goal.invariant-loop-i
invariant-loop-i l = (k : ℕ) → k < l.i → field (fields_of l.record) k ≡ get_or (map (λ name. name.now) l.header) k []
