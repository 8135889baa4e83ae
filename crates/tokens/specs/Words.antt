-- Words between spaces.
use Rattle.std.specs.Prelude.{◌≡◌, ◌<◌, ℕ, ◌==◌, not, nat_lt, Bool, true, if◌then◌else◌, List, [], length, filter}
use Rattle.std.specs.List.{list_all, slice_split}

-- the words between spaces
abbrev pub words_of : List ℕ → List (List ℕ)
words_of text = filter (λ w. nat_lt 0 (length w)) (slice_split (λ b. b == 32) text)

-- what can be a word: at least one byte, and no space
abbrev pub IsWord : List ℕ → Type 0
IsWord word = (0 < length word) × (list_all (λ b. not (b == 32)) word ≡ true)

-- the word if it is wanted, else nothing
abbrev pub word_if : Bool → List ℕ → List ℕ
word_if b word = if b then word else []
