-- The words of what workers do by themselves are refused beside them.
use Rattle.std.proofs.Common.{◌≡◌, ℕ, true, List, [], ◌∷◌, Option, Some, None, option_map, codes, inl, inr, ap, sym, subst, ◌∙◌}
use Rattle.std.specs.Str.{bytes_eq}
use Rattle.std.proofs.lemmas.Bool.{or_cases}
use Rattle.tokens.proofs.MarkedLemmas.{bytes_same}
use Rattle.script_words.specs.Commands.{alone, command_of, slot_alone}
use Rattle.script_words.specs.declared.commands.Command.{Command}
use Rattle.script_words.specs.declared.commands.Command.TheVariants as command
use Rattle.answers.specs.Help.{is_of_workers}
use Rattle.answers.specs.declared.answer.Answer.{Answer}
use Rattle.answers.specs.declared.answer.Answer.TheVariants as answer
use Rattle.answers.specs.declared.answer.Reason.TheVariants as reason
use Rattle.beside.specs.Beside.{BesideValue, DoesBeside, Tells}

-- a command is refused, and changes nothing
abbrev IsRefused : Command → Type 0
IsRefused done = (seats : ℕ) (old new : BesideValue) (a : Answer) → DoesBeside seats done old a new → Tells (answer.Refused reason.BadLine) old a new

-- that of a word alone
alone_refused : (one done : Command) → IsRefused one → (rest : List (List ℕ)) → alone one rest ≡ Some done → IsRefused done
alone_refused one done refused [] e = let same : one ≡ done = cc in subst IsRefused same refused
alone_refused one done refused (word ∷ rest) e = absurd (cc)

-- that of a word and a slot
slot_refused : (one : ℕ → Command) (done : Command) → ((k : ℕ) → IsRefused (one k)) → (slot : Option ℕ) → option_map (λ k. one k) slot ≡ Some done → IsRefused done
slot_refused one done refused None e = absurd (cc)
slot_refused one done refused (Some k) e = let same : one k ≡ done = cc in subst IsRefused same (refused k)

pub word_refused : (first : List ℕ) (rest : List (List ℕ)) (done : Command) → command_of (first ∷ rest) ≡ Some done → is_of_workers first ≡ true → IsRefused done
word_refused first rest done e is =
    elim (or_cases _ (bytes_eq first (codes "publish")) is) [
      | inr h ↦ alone_refused command.Publish done (λ seats old new a does. does) rest (said (codes "publish") h)
      | inl is ↦ elim (or_cases _ (bytes_eq first (codes "abandon")) is) [
        | inr h ↦ slot_refused (λ k. command.Abandon k) done (λ k seats old new a does. does) (slot_alone rest) (said (codes "abandon") h)
        | inl is ↦ elim (or_cases _ (bytes_eq first (codes "give")) is) [
          | inr h ↦ slot_refused (λ k. command.Give k) done (λ k seats old new a does. does) (slot_alone rest) (said (codes "give") h)
          | inl is ↦ elim (or_cases (bytes_eq first (codes "open")) (bytes_eq first (codes "take")) is) [
            | inr h ↦ slot_refused (λ k. command.Take k) done (λ k seats old new a does. does) (slot_alone rest) (said (codes "take") h)
            | inl h ↦ alone_refused command.Open done (λ seats old new a does. does) rest (said (codes "open") h)
          ]
        ]
      ]
    ]
  where
    said : (word : List ℕ) → bytes_eq first word ≡ true → command_of (word ∷ rest) ≡ Some done
    said word h = ap (λ w. command_of (w ∷ rest)) (sym (bytes_same first word h)) ∙ e
