use Rattle.std.proofs.Common.{Bor, ℕ, List, ◌∷◌, [], ◌≡◌, ◌≤◌, length, map, None, arith, refl}
use Rattle.script_words.specs.Commands.{changes_of}
use Rattle.script_words.proofs.moves.read_changes.Goals as goal

-- three words or more ask for no changes
no_changes : (words : List (Bor (List ℕ))) → 3 ≤ length words → None ≡ changes_of (map (λ w. w.now) words)
no_changes [] h = absurd (omega arith)
no_changes (a ∷ []) h = absurd (omega arith)
no_changes (a ∷ b ∷ []) h = absurd (omega arith)
no_changes (a ∷ b ∷ c ∷ words) h = refl

pub returns-in-len3-up-clause-value : goal.returns-in-len3-up-clause-value
returns-in-len3-up-clause-value c = no_changes c.args.words.now c.in-len3-up.len_at_least
