-- Forms of another number of words.
use Rattle.std.proofs.Common.{arith, ◌≡◌, ℕ, ◌<◌, Bor, List, [], ◌∷◌, length, None, refl}
use Rattle.link_state.specs.declared.marks.LinkChange.{LinkChange}
use Rattle.tokens.proofs.WordsLemmas.{nows}
use Rattle.script_words.specs.Events.{end_change_of, added_point_of, pair_of, added_set_of}

pub no_end_change : (first second : LinkChange) (ws : List (Bor (List ℕ))) → (length ws ≡ 2 → ⊥) → (length ws ≡ 3 → ⊥) → None ≡ end_change_of first second (nows ws)
no_end_change first second [] h k = refl
no_end_change first second (a ∷ []) h k = refl
no_end_change first second (a ∷ b ∷ []) h k = absurd (h (omega arith))
no_end_change first second (a ∷ b ∷ c ∷ []) h k = absurd (k (omega arith))
no_end_change first second (a ∷ b ∷ c ∷ d ∷ ws) h k = refl

pub no_added_point : (ws : List (Bor (List ℕ))) → (length ws ≡ 2 → ⊥) → None ≡ added_point_of (nows ws)
no_added_point [] h = refl
no_added_point (a ∷ []) h = refl
no_added_point (a ∷ b ∷ []) h = absurd (h (omega arith))
no_added_point (a ∷ b ∷ c ∷ ws) h = refl

pub no_pair : (ws : List (Bor (List ℕ))) → (length ws ≡ 2 → ⊥) → None ≡ pair_of (nows ws)
no_pair [] h = refl
no_pair (a ∷ []) h = refl
no_pair (a ∷ b ∷ []) h = absurd (h (omega arith))
no_pair (a ∷ b ∷ c ∷ ws) h = refl

pub no_added_set : (ws : List (Bor (List ℕ))) → length ws < 3 → None ≡ added_set_of (nows ws)
no_added_set [] h = refl
no_added_set (a ∷ []) h = refl
no_added_set (a ∷ b ∷ []) h = refl
no_added_set (a ∷ b ∷ c ∷ ws) h = absurd (omega arith)
