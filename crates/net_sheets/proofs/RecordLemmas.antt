-- The fields of records.
use Rattle.std.proofs.Common.{◌≡◌, ℕ, suc, ◌<◌, ◌≤◌, List, [], ◌∷◌, length, get_or, map, drop, take, ◌-◌, Bor, refl, ap, subst, sym, ◌∙◌, arith}
use Rattle.std.specs.List.{All}
use Rattle.std.proofs.lemmas.List.{length-map}
use Rattle.std.proofs.lemmas.List.Elements.{All-map}
use Rattle.csv.specs.Reading.{AreRecords, default_config, strip_bom}
use Rattle.csv.specs.Records.{Row, field_at, fields_of}
use Rattle.csv.specs.declared.parser.State.TheVariants.{StartRecord}
use Rattle.net_sheets.specs.Tables.{Fields}
use Rattle.tokens.proofs.JoinLemmas.{rest_all}
use Rattle.net_sheets.specs.Records.{IsTable, field}

-- records with the same fields at all places
pub same_fields : (fs hs : Fields) → length fs ≡ length hs → ((k : ℕ) → k < length hs → field fs k ≡ get_or hs k []) → fs ≡ hs
unfolding field_at
same_fields [] [] long same = refl
same_fields [] (h ∷ hs) long same = absurd (omega arith)
same_fields (f ∷ fs) [] long same = absurd (omega arith)
same_fields (f ∷ fs) (h ∷ hs) long same =
    let first : f ≡ h = same 0 (omega arith) in
    rw (first, same_fields fs hs (omega arith) (λ k l. same (suc k) (omega arith))) refl

-- the fields of a first record and of the others
pub first_fields : (header : Fields) (rows : List Row) (first : Row) → 1 ≤ length rows → first ≡ get_or rows 0 first → fields_of first ≡ header → map fields_of rows ≡ header ∷ map fields_of (drop 1 rows)
first_fields header [] first some is e = absurd (omega arith)
first_fields header (r ∷ rs) first some is e = ap (λ fs. fs ∷ map fields_of rs) (sym (ap fields_of is) ∙ e)

pub all_others : {X : Type 0} (P : X → Type 0) (xs : List X) → 1 ≤ length xs → All P (take (length xs - 1) (drop 1 xs)) → All P (drop 1 xs)
all_others P [] some all = absurd (omega arith)
all_others P (x ∷ xs) some all = subst (All P) (rest_all x xs) all

-- a table by its header and the width of its records
pub table_made : (names : List (Bor (List ℕ))) (text : List ℕ) (rows told : List Row) → told ≡ rows → AreRecords default_config StartRecord (strip_bom text) (map fields_of rows)
    → map fields_of told ≡ map (λ (name : Bor (List ℕ)). name.now) names ∷ map fields_of (drop 1 told) → All (λ fields. length (fields_of fields) ≡ length names) (drop 1 told)
    → IsTable (map (λ (name : Bor (List ℕ)). name.now) names) text (map fields_of (drop 1 rows))
table_made names text rows told e read first wide =
    record {
      read = subst (AreRecords default_config StartRecord (strip_bom text)) (subst (λ rs. map fields_of rs ≡ map (λ (name : Bor (List ℕ)). name.now) names ∷ map fields_of (drop 1 rs)) e first) read;
      wide = All-map (λ fields. length fields ≡ length (map (λ (name : Bor (List ℕ)). name.now) names)) fields_of (drop 1 rows)
          (subst (λ n. All (λ r. length (fields_of r) ≡ n) (drop 1 rows)) (sym (length-map names (λ (name : Bor (List ℕ)). name.now))) (subst (λ rs. All (λ r. length (fields_of r) ≡ length names) (drop 1 rs)) e wide));
    }
