-- The titles of explanations: a number and a name, a letter and a name, or a name alone; and the words that call them.
use Rattle.std.specs.Prelude.{◌≡◌, ◌==◌, ◌&&◌, ◌||◌, ℕ, Bool, false, List, [], ◌∷◌, ◌++◌, Option, codes, find, nat_le, not, length, slice_index}
use Rattle.std.specs.Option.{option_map_or}
use Rattle.std.specs.List.{after_first, before_first, list_any}
use Rattle.std.specs.Str.{bytes_eq}

-- all titles but those of warnings, in the order of the tables of docs/SCRIPT.md
abbrev pub titles : List (List ℕ)
titles =
    codes "41 Old" ∷ codes "42 Clash" ∷ codes "40 Gap" ∷ codes "51 EndOfNumbers" ∷ codes "43 BacklogFull" ∷
    codes "46 Busy" ∷ codes "45 Nothing" ∷ codes "47 Stale" ∷ codes "48 Unasked" ∷ codes "49 Differs" ∷
    codes "52 NotOpen" ∷ codes "44 NotReady" ∷ codes "10 NoPoint" ∷ codes "11 PointThere" ∷ codes "12 PointUsed" ∷
    codes "13 NotStp" ∷ codes "14 Paired" ∷ codes "15 NotPaired" ∷ codes "16 PairUsed" ∷ codes "17 NoSet" ∷
    codes "18 SetThere" ∷ codes "19 Joined" ∷ codes "20 SameEnds" ∷ codes "21 BadLinks" ∷ codes "22 NoLink" ∷
    codes "23 LinkThere" ∷ codes "24 LastLink" ∷ codes "25 SetUsed" ∷ codes "26 NoPlan" ∷ codes "27 BadRow" ∷
    codes "28 Limit" ∷ codes "29 NoRow" ∷ codes "53 NotKept" ∷ codes "62 BadLine" ∷ codes "a IsDest" ∷ codes "b Twice" ∷
    codes "c NotJoined" ∷ codes "d ViaTwice" ∷ codes "e NotLower" ∷ codes "f ViaMate" ∷ codes "g BadMate" ∷
    codes "h NoRoute" ∷ codes "a points" ∷ codes "b route" ∷ codes "c status" ∷ codes "d links" ∷ codes "e messages" ∷
    codes "1 OutOfMemory" ∷ codes "60 NotToml" ∷ codes "61 BadKey" ∷ codes "63 Read" ∷ codes "64 Write" ∷
    codes "50 NoPlace" ∷ codes "2 BadCode" ∷ codes "limits" ∷ []

-- the titles of warnings, in the order of their table
abbrev pub warning_titles : List (List ℕ)
warning_titles = codes "MissingRow" ∷ codes "MissingPlan" ∷ codes "Unreached" ∷ codes "Unnamed" ∷ codes "Unused" ∷ codes "SingleFailure" ∷ []

-- whether a title is one of these
abbrev pub is_warned : List ℕ → Bool
is_warned title = list_any (bytes_eq title) warning_titles

-- whether a title is one of the others
abbrev pub is_listed : List ℕ → Bool
is_listed title = list_any (bytes_eq title) titles

-- the text begins with that one
abbrev pub BeginsWith : List ℕ → List ℕ → Type 0
BeginsWith text front = (rest : List ℕ) × (text ≡ front ++ rest)

-- that one stands in the text
abbrev pub StandsIn : List ℕ → List ℕ → Type 0
StandsIn text part = (front rest : List ℕ) × (text ≡ front ++ (part ++ rest))

-- what stands in a title before its first space: a number or a letter
abbrev pub mark_of : List ℕ → List ℕ
mark_of title = before_first (λ b. b == 32) title

-- the name, which stands behind that space; nothing if there is none
abbrev pub name_in : List ℕ → List ℕ
name_in title = after_first (λ b. b == 32) title

-- whether a text begins with a digit
abbrev pub is_number_text : List ℕ → Bool
is_number_text text = nat_le 48 (slice_index text 0) && nat_le (slice_index text 0) 57

-- whether a word calls an explanation of that title: it is the title, its number or its letter, or its name
abbrev pub is_called_by : List ℕ → List ℕ → Bool
is_called_by word title =
    bytes_eq word title || (not (length word == 0) && (bytes_eq word (mark_of title) || bytes_eq word (name_in title)))

-- the first title whose explanation a word calls
abbrev pub title_found : List ℕ → Option (List ℕ)
title_found word = find (is_called_by word) titles

-- the first title of a warning whose explanation a word calls
abbrev pub warning_found : List ℕ → Option (List ℕ)
warning_found word = find (is_called_by word) warning_titles

-- whether a word finds that title
abbrev pub is_found_by : List ℕ → List ℕ → Bool
is_found_by title word = option_map_or (λ found. bytes_eq found title) (title_found word) false

-- whether a title is found by itself, by its name if it has one, and by its number if it has one
abbrev pub is_reached : List ℕ → Bool
is_reached title =
    is_found_by title title && (length (name_in title) == 0 || is_found_by title (name_in title))
    && (not (is_number_text title) || is_found_by title (mark_of title))
