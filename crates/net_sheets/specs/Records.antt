-- The records of a table in text.
use Rattle.std.specs.Prelude.{◌≡◌, ℕ, List, [], ◌∷◌, length, unwrap_or}
use Rattle.std.specs.List.{All}
use Rattle.csv.specs.Reading.{AreRecords, default_config, strip_bom}
use Rattle.csv.specs.Records.{field_at}
use Rattle.csv.specs.declared.parser.State.TheVariants.{StartRecord}
use Rattle.net_sheets.specs.Tables.{Fields}

-- the text is, as CSV, this header and these records, each with as many fields
pub record IsTable (header : Fields) (text : List ℕ) (records : List Fields) : Type 0 where
  pub read : AreRecords default_config StartRecord (strip_bom text) (header ∷ records)
  pub wide : All (λ fields. length fields ≡ length header) records

-- the field at a place, or nothing
abbrev pub field : Fields → ℕ → List ℕ
field fields i = unwrap_or (field_at fields i) []
