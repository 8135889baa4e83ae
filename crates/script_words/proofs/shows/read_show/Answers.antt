use Rattle.std.proofs.Common.{Bor, ℕ, List, ◌∷◌, [], ◌≡◌, ◌≤◌, length, map, None, arith, refl}
use Rattle.script_words.specs.Commands.{show_of}
use Rattle.script_words.proofs.shows.read_show.Goals as goal

-- three words or more show nothing
no_show : (words : List (Bor (List ℕ))) → 3 ≤ length words → None ≡ show_of (map (λ w. w.now) words)
no_show [] h = absurd (omega arith)
no_show (a ∷ []) h = absurd (omega arith)
no_show (a ∷ b ∷ []) h = absurd (omega arith)
no_show (a ∷ b ∷ c ∷ words) h = refl

pub returns-in-len3-up : goal.returns-in-len3-up
returns-in-len3-up c = no_show c.args.words.now c.in-len3-up.len_at_least
