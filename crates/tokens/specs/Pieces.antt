-- Texts read piece by piece.
use Rattle.std.specs.Prelude.{ℕ, ◌==◌, List, [], ◌∷◌, Option, Some, option_map, option_and_then}
use Rattle.std.specs.List.{slice_split}

-- what each of the texts is, if each is something
abbrev pub all_of : {A B : Type 0} → (A → Option B) → List A → Option (List B)
all_of f [] = Some []
all_of f (x ∷ xs) = option_and_then (λ y. option_map (λ ys. y ∷ ys) (all_of f xs)) (f x)

-- what the pieces between these bytes are
abbrev pub pieces_of : {B : Type 0} → ℕ → (List ℕ → Option B) → List ℕ → Option (List B)
pieces_of byte f text = all_of f (slice_split (λ b. b == byte) text)
