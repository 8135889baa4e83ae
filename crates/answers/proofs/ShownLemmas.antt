-- Texts that are put together.
use Rattle.std.proofs.Common.{◌≡◌, ◌∙◌, ℕ, List, ◌++◌, ap, append_assoc}

-- a text, and what comes behind it
pub behind : (old word rest mid new : List ℕ) → mid ≡ old ++ word → new ≡ mid ++ rest → new ≡ old ++ (word ++ rest)
behind old word rest mid new first second = second ∙ ap (λ t. t ++ rest) first ∙ append_assoc old word rest

-- a word with digits, and what comes behind them
pub put_behind : (old word digits rest mid new : List ℕ) → mid ≡ old ++ (word ++ digits) → new ≡ mid ++ rest → new ≡ old ++ (word ++ (digits ++ rest))
put_behind old word digits rest mid new first second =
    behind old (word ++ digits) rest mid new first second ∙ ap (λ t. old ++ t) (append_assoc word digits rest)
