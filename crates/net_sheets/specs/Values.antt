-- What the records of the tables say.
use Rattle.std.specs.Prelude.{◌≡◌, ℕ, ◌==◌, if◌then◌else◌, List, [], ◌∷◌, Option, Some, None, option_map, Result, Ok, Err, codes}
use Rattle.std.specs.Str.{bytes_eq}
use Rattle.net_items.specs.declared.items.Point.{Point}
use Rattle.net_items.specs.declared.items.LinkSet.{LinkSet}
use Rattle.point_codes.specs.Codes.{code_of}
use Rattle.point_codes.specs.Numbers.{number_of}
use Rattle.tokens.specs.Kinds.{kind_of}
use Rattle.tokens.specs.Numbers.{id_of}
use Rattle.tokens.specs.Marked.{marked_of}
use Rattle.tokens.specs.Pieces.{pieces_of}
use Rattle.tokens.specs.declared.marked.Format.TheVariants.{Two}
use Rattle.net_sheets.specs.declared.faults.Flaw.{Flaw}
use Rattle.net_sheets.specs.declared.faults.Flaw.TheVariants.{Column, FifthClass}
use Rattle.net_sheets.specs.declared.routes.Route.{Route}
use Rattle.net_sheets.specs.declared.routes.Route.TheVariants.{Via, Mate}
use Rattle.net_sheets.specs.Tables.{Fields}
use Rattle.net_sheets.specs.Records.{IsTable, field}

-- a value, or the first thing that is wrong with a record
abbrev pub Read : Type 0 → Type 0
Read A = Result A Flaw

-- the value of the text in a column, and then the rest
abbrev pub column : {A B : Type 0} → ℕ → Option A → (A → Read B) → Read B
column n None next = Err (Column n)
column n (Some x) next = next x

-- a code, or nothing
abbrev pub mate_in : List ℕ → Option (Option ℕ)
mate_in [] = Some None
mate_in (b ∷ bs) = option_map Some (code_of (b ∷ bs))

-- CODE, KIND, CODE or nothing
abbrev pub point_of : Fields → Read Point
point_of fields =
    column 1 (code_of (field fields 0)) (λ code.
    column 2 (kind_of (field fields 1)) (λ kind.
    column 3 (mate_in (field fields 2)) (λ mate. Ok (record { code = code; kind = kind; mate = mate }))))

-- ID, CODE, CODE, MARKED MARKED .. between single spaces
abbrev pub set_of : Fields → Read LinkSet
set_of fields =
    column 1 (id_of (field fields 0)) (λ id.
    column 2 (code_of (field fields 1)) (λ a.
    column 3 (code_of (field fields 2)) (λ b.
    column 4 (pieces_of 32 (marked_of Two) (field fields 3)) (λ links. Ok (record { id = id; a = a; b = b; links = links })))))

-- nothing after the word `mate`
abbrev pub mate_route : ℕ → ℕ → List ℕ → Read Route
mate_route dest y [] = Ok (Mate dest y)
mate_route dest y (b ∷ bs) = Err (Column 4)

-- a class from 1 to 4; class 5, which answers write for the mate's, is wrong in its own way
abbrev pub class_in : List ℕ → Read ℕ
class_in text =
    if bytes_eq text (codes "5") then Err FifthClass
    else column 3 (number_of 4 text) (λ k. if k == 0 then Err (Column 3) else Ok k)

-- what comes after a value, if there is one
abbrev pub and_then : {A B : Type 0} → Read A → (A → Read B) → Read B
and_then (Err flaw) next = Err flaw
and_then (Ok x) next = next x

-- a class, and CODE; or the word `mate`, and nothing
abbrev pub way_of : ℕ → ℕ → List ℕ → List ℕ → Read Route
way_of dest y class via =
    if bytes_eq class (codes "mate") then mate_route dest y via
    else and_then (class_in class) (λ k. column 4 (code_of via) (λ z. Ok (Via dest y k z)))

-- CODE, CODE, a class and a via
abbrev pub route_of : Fields → Read Route
route_of fields =
    column 1 (code_of (field fields 0)) (λ dest.
    column 2 (code_of (field fields 1)) (λ y. way_of dest y (field fields 2) (field fields 3)))

-- a first value and others, or what is wrong with the first of them
abbrev pub with_first : {A : Type 0} → Read A → Read (List A) → Read (List A)
with_first (Err flaw) rest = Err flaw
with_first (Ok x) (Err flaw) = Err flaw
with_first (Ok x) (Ok xs) = Ok (x ∷ xs)

-- the values of all records, or what is wrong with the first that has none
abbrev pub all_read : {A : Type 0} → (Fields → Read A) → List Fields → Read (List A)
all_read of [] = Ok []
all_read of (r ∷ rs) = with_first (of r) (all_read of rs)

-- the text is, as CSV, this header and records; those are these values, or the first that has none has this flaw
pub record Holds {A : Type 0} (of : Fields → Read A) (header : Fields) (text : List ℕ) (answer : Read (List A)) : Type 0 where
  pub records : List Fields
  pub table : IsTable header text records
  pub answered : all_read of records ≡ answer
