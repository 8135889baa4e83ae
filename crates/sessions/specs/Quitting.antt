-- Where an input ends that has a line `quit` (own).
use Rattle.std.specs.Prelude.{◌≡◌, ◌≤◌, ℕ, ◌==◌, Bool, true, false, if◌then◌else◌, List, [], ◌∷◌, ◌++◌, length, take, Option, Some, None, option_map}
use Rattle.sessions.specs.declared.quitting.Progress.{Progress}
use Rattle.sessions.specs.declared.quitting.Progress.TheVariants as so_far
use Rattle.sessions.specs.declared.quitting.Found.{Found}
use Rattle.sessions.specs.declared.quitting.Found.TheVariants as found

-- how far a line has come after one more byte: spaces, `quit`, spaces and a carriage return
abbrev pub after : Progress → ℕ → Progress
after so_far.Spaces b = if b == 32 then so_far.Spaces else if b == 113 then so_far.Q else so_far.Other
after so_far.Q b = if b == 117 then so_far.Qu else so_far.Other
after so_far.Qu b = if b == 105 then so_far.Qui else so_far.Other
after so_far.Qui b = if b == 116 then so_far.Quit else so_far.Other
after so_far.Quit b = if b == 32 then so_far.Quit else if b == 13 then so_far.Return else so_far.Other
after so_far.Return b = so_far.Other
after so_far.Other b = so_far.Other

-- how far it has come after some more bytes
abbrev pub after_all : Progress → List ℕ → Progress
after_all line [] = line
after_all line (b ∷ bs) = after_all (after line b) bs

-- how far the last line has come after some more bytes, among which lines may end
abbrev pub after_text : Progress → List ℕ → Progress
after_text line [] = line
after_text line (b ∷ bs) = after_text (if b == 10 then so_far.Spaces else after line b) bs

-- whether no letter of `quit` has come
abbrev pub is_idle : Progress → Bool
is_idle so_far.Spaces = true
is_idle so_far.Other = true
is_idle _ = false

-- whether a line that ends here is `quit`
abbrev pub is_quit : Progress → Bool
is_quit so_far.Quit = true
is_quit so_far.Return = true
is_quit _ = false

-- the bytes from within a line up to the end of the first line that is `quit`: all, if there is none
abbrev pub through : Progress → List ℕ → List ℕ
through line [] = []
through line (b ∷ bs) = b ∷ (if b == 10 then (if is_quit line then [] else through so_far.Spaces bs) else through (after line b) bs)

-- an input up to the end of its first line that is `quit`
abbrev pub until_quit : List ℕ → List ℕ
until_quit = through so_far.Spaces

-- what is left of an input within a line, or after its line `quit`, of what is left of the reader
abbrev pub left_of : Option Progress → Option (List ℕ) → Option (List ℕ)
left_of None known = Some []
left_of (Some line) known = option_map (through line) known

-- the next bytes come to this: whatever follows, the input ends with so many of them, or goes on after them
abbrev pub IsFound : Progress → List ℕ → Found → Type 0
IsFound line bytes (found.Quit n) = (n ≤ length bytes) × ((n ≡ 0) → ⊥) × ((more : List ℕ) → through line (bytes ++ more) ≡ take n bytes)
IsFound line bytes (found.Line next) = (more : List ℕ) → through line (bytes ++ more) ≡ bytes ++ through next more
