-- What is told about more words than one.
use Rattle.std.proofs.Common.{◌≡◌, ◌≤◌, ℕ, List, [], ◌∷◌, length, refl, arith}
use Rattle.answers.specs.Help.{help_on}
use Rattle.answers.specs.declared.answer.Answer.TheVariants as answer
use Rattle.answers.specs.declared.answer.Reason.TheVariants as reason

pub more_words : (words : List (List ℕ)) → 2 ≤ length words → help_on words ≡ answer.Refused reason.BadLine
more_words [] long = absurd (omega (arith, long))
more_words (word ∷ []) long = absurd (omega (arith, long))
more_words (word ∷ other ∷ words) long = refl
