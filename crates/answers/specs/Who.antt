-- How many events were accepted through each seat of a desk, and how that is told (own).
use Rattle.std.specs.Prelude.{ℕ, List, ◌∷◌, ◌++◌, codes, map}
use Rattle.std.specs.List.{flat_map, zip}
use Rattle.std.specs.Fmt.{decimal}
use Rattle.answers.specs.declared.who.SeatCount.{SeatCount}

-- a seat of this name and this count
abbrev pub seat_count : List ℕ × ℕ → SeatCount
seat_count (name, events) = record { name = name; events = events }

-- names and counts in the order of the seats, pair by pair
abbrev pub seat_counts : List (List ℕ) → List ℕ → List SeatCount
seat_counts names counts = map seat_count (zip names counts)

-- ` NAME:EVENTS`
abbrev pub seat_word : SeatCount → List ℕ
seat_word count = 32 ∷ count.name ++ (codes ":" ++ decimal count.events)

-- `who NAME:EVENTS NAME:EVENTS`
abbrev pub who_text : List SeatCount → List ℕ
who_text list = codes "who" ++ flat_map seat_word list
