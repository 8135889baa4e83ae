-- Entries of sets of another length.
use Rattle.std.proofs.Common.{arith, ◌≡◌, ℕ, ◌<◌, List, [], ◌∷◌, length, None, refl, Bor}
use Rattle.tokens.specs.declared.marked.Format.{Format}
use Rattle.tokens.proofs.WordsLemmas.{nows}
use Rattle.net_text.specs.Entries.{set_of}

pub no_set : (format : Format) (ws : List (Bor (List ℕ))) → length ws < 3 → None ≡ set_of format (nows ws)
no_set format [] h = refl
no_set format (a ∷ []) h = refl
no_set format (a ∷ b ∷ []) h = refl
no_set format (a ∷ b ∷ c ∷ ws) h = absurd (omega arith)
