use Rattle.std.proofs.Common.{◌≡◌, length, take}
use Rattle.std.specs.List.{All}
use Rattle.csv.specs.Records.{Row, fields_of}
use Rattle.net_sheets.proofs.records.misfit.Given as goal

abbrev pub invariant-loop-record : goal.invariant-loop-record
invariant-loop-record l = All (λ (fields : Row). length (fields_of fields) ≡ l.width) (take l.record-index l.records)
