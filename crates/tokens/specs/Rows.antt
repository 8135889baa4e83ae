-- ROW: a row of a plan, `CODE:RANK:CLASSES` or `CODE:RANK:CLASSES:m`.
use Rattle.std.specs.Prelude.{◌<◌, ◌≤◌, ℕ, Bool, true, false, if◌then◌else◌, List, [], ◌∷◌, ◌++◌, length, map, Option, Some, None, option_map, option_and_then, codes}
use Rattle.std.specs.List.{AllByRecursion, join_with_byte}
use Rattle.std.specs.Str.{bytes_eq}
use Rattle.std.specs.Fmt.{decimal}
use Rattle.point_codes.specs.Codes.{split_of, code_of, code_text, IsCode}
use Rattle.net_items.specs.declared.lists.Row.{Row}
use Rattle.tokens.specs.Numbers.{rank_of}
use Rattle.tokens.specs.Pieces.{pieces_of}
use Rattle.tokens.specs.Words.{word_if}

-- a class: one or more codes joined by +
abbrev pub vias_of : List ℕ → Option (List ℕ)
vias_of text = pieces_of 43 code_of text

-- nothing, or classes joined by /
abbrev pub classes_of : List ℕ → Option (List (List ℕ))
classes_of [] = Some []
classes_of (b ∷ bs) = pieces_of 47 vias_of (b ∷ bs)

-- the text of the classes, and whether `:m` came after it
abbrev pub flagged : List ℕ → Option (List ℕ × List ℕ) → Option (List ℕ × Bool)
flagged text None = Some (text, false)
flagged text (Some (classes, flag)) = if bytes_eq flag (codes "m") then Some (classes, true) else None

-- the text of the classes, and whether `:m` comes after it
abbrev pub flag_of : List ℕ → Option (List ℕ × Bool)
flag_of text = flagged text (split_of 58 text)

-- the point, the rank, the text of the classes and the mate flag
abbrev pub parts_of : List ℕ → Option (ℕ × ℕ × List ℕ × Bool)
parts_of text =
    option_and_then (λ (code, rest).
    option_and_then (λ (rank, tail).
    option_and_then (λ (classes, mate).
    option_and_then (λ c.
    option_map (λ r. (c, r, classes, mate)) (rank_of rank)) (code_of code)) (flag_of tail)) (split_of 58 rest)) (split_of 58 text)

-- the row that a token is
abbrev pub row_of : List ℕ → Option Row
row_of text =
    option_and_then (λ (c, r, classes, mate). option_map (λ cs. record { point = c; rank = r; classes = cs; mate = mate }) (classes_of classes)) (parts_of text)

-- how a class is written
abbrev pub vias_text : List ℕ → List ℕ
vias_text vias = join_with_byte 43 (map code_text vias)

-- how classes are written
abbrev pub classes_text : List (List ℕ) → List ℕ
classes_text classes = join_with_byte 47 (map vias_text classes)

-- how a row is written
abbrev pub row_text : Row → List ℕ
row_text row = code_text row.point ++ (58 ∷ (decimal row.rank ++ (58 ∷ (classes_text row.classes ++ word_if row.mate (codes ":m")))))

-- a class has a via, and each is a code
abbrev pub IsClass : List ℕ → Type 0
IsClass vias = (0 < length vias) × AllByRecursion IsCode vias

-- each number of a row is in the range of its token, and each class has a via
abbrev pub IsRow : Row → Type 0
IsRow row = IsCode row.point × (row.rank ≤ 255) × AllByRecursion IsClass row.classes
