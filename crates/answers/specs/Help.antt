-- What `help` and `quit` are answered (own).
use Rattle.std.specs.Prelude.{ℕ, ◌||◌, Bool, if◌then◌else◌, List, [], ◌∷◌, ◌++◌, codes, find}
use Rattle.std.specs.List.{flat_map}
use Rattle.std.specs.Option.{option_map_or}
use Rattle.std.specs.Str.{bytes_eq}
use Rattle.script_words.specs.Forms.{FormValue, forms, is_of}
use Rattle.tokens.specs.Words.{word_if}
use Rattle.answers.specs.declared.answer.Answer.{Answer}
use Rattle.answers.specs.declared.answer.Answer.TheVariants as answer
use Rattle.answers.specs.declared.answer.Reason.TheVariants as reason
use Rattle.answers.specs.declared.answer.Reply.TheVariants as reply

-- a word after a space
abbrev pub word_text : FormValue → List ℕ
word_text form = 32 ∷ form.word

-- `help WORD WORD ..`: each word that begins a command
abbrev pub all_words : List ℕ
all_words = codes "help" ++ flat_map word_text forms

-- the words of what workers do by themselves: a command that begins with one is refused beside them
abbrev pub is_of_workers : List ℕ → Bool
is_of_workers word =
    bytes_eq word (codes "open") || bytes_eq word (codes "take") || bytes_eq word (codes "give") || bytes_eq word (codes "abandon") || bytes_eq word (codes "publish")

-- the word of what is told of seats alone: it is refused where there are none
abbrev pub is_of_seats : List ℕ → Bool
is_of_seats word = bytes_eq word (codes "who")

-- where a command is refused, if it is
abbrev pub refused_text : List ℕ → List ℕ
refused_text word = word_if (is_of_workers word) (codes "; refused beside workers") ++ word_if (is_of_seats word) (codes "; refused outside serve")

-- `EXAMPLE: MEANING`, and where it is refused
abbrev pub example_text : FormValue → List ℕ
example_text form = form.example ++ (codes ": " ++ (form.meaning ++ refused_text form.word))

-- `help FORM, as EXAMPLE: MEANING`
abbrev pub form_text : FormValue → List ℕ
form_text form = codes "help " ++ (form.form ++ (codes ", as " ++ example_text form))

-- what is told about the words after `help`
abbrev pub help_on : List (List ℕ) → Answer
-- `help`
help_on [] = answer.Help all_words
-- `help WORD`
help_on (word ∷ []) = option_map_or (λ (form : FormValue). answer.Help (form_text form)) (find (is_of word) forms) (answer.Refused reason.BadLine)
help_on _ = answer.Refused reason.BadLine

-- what is told about the words after `quit`
abbrev pub quit_on : List (List ℕ) → Answer
-- `quit`
quit_on [] = answer.Reply reply.Quit
quit_on _ = answer.Refused reason.BadLine

-- the answer to a line that is no command, by its words
abbrev pub other_answer : List (List ℕ) → Answer
other_answer (first ∷ rest) = if bytes_eq first (codes "help") then help_on rest else if bytes_eq first (codes "quit") then quit_on rest else answer.Refused reason.BadLine
other_answer [] = answer.Refused reason.BadLine
