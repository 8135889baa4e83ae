-- What the lines of a session do, which may post or only ask (own).
use Rattle.std.specs.Prelude.{◌≡◌, ℕ, Bool, true, false, List, Option, Some, None}
use Rattle.tokens.specs.Words.{words_of}
use Rattle.answers.specs.Help.{other_answer}
use Rattle.answers.specs.Who.{seat_counts}
use Rattle.answers.specs.declared.answer.Answer.{Answer}
use Rattle.answers.specs.declared.answer.Answer.TheVariants as answer
use Rattle.answers.specs.declared.answer.Reason.TheVariants as reason
use Rattle.script_words.specs.Commands.{command_of}
use Rattle.script_words.specs.declared.commands.Command.{Command}
use Rattle.script_words.specs.declared.commands.Command.TheVariants as command
use Rattle.desk_console.specs.Does.{PostsNext}
use Rattle.beside.specs.Beside.{BesideValue, CountsSeats, DoesBeside, DoesThere, PostsWholeBeside, Tells}
use Rattle.beside.specs.Seats.{LosesBeside}
use Rattle.serving.specs.declared.channels.Rules.{Rules}

-- who answers a session: who comes to the hub for it, and what it may do
pub record SeatedValue : Type 0 where
  pub beside : BesideValue
  pub rules : Rules

-- whether a command is posted by the session's own collector, and whether it is a post under a sequence number
abbrev pub is_plain : Command → Bool
is_plain (command.Event event) = true
is_plain (command.Whole w) = true
is_plain done = false

abbrev pub is_post : Command → Bool
is_post (command.Post by seq event) = true
is_post done = false

-- whether it asks who is there
abbrev pub is_who : Command → Bool
is_who command.Who = true
is_who done = false

-- something that only who may post does; another is told that the line is none
abbrev pub IfPosts : Bool → (BesideValue → Answer → BesideValue → Type 0) → BesideValue → Answer → BesideValue → Type 0
IfPosts true Done = Done
IfPosts false Done = Tells (answer.Refused reason.BadLine)

-- it comes to the hub, and tells how many events had been accepted through each seat then, by the names of the seats
abbrev pub TellsSeats : ℕ → List (List ℕ) → BesideValue → Answer → BesideValue → Type 0
TellsSeats seats names old a new = (counts : List ℕ) × CountsSeats seats old counts new × (a ≡ answer.Who (seat_counts names counts))

-- what a command does: as beside workers, but that a plain event, and those of a whole set or point, are posted by the session's collector, that not all may
-- post, and that the seats are told
abbrev pub DoesAs : ℕ → Rules → Command → BesideValue → Answer → BesideValue → Type 0
DoesAs seats rules (command.Event event) = IfPosts rules.posts (DoesThere seats (PostsNext rules.collector event))
DoesAs seats rules (command.Whole w) = IfPosts rules.posts (PostsWholeBeside seats rules.collector w)
DoesAs seats rules (command.Post by seq event) = IfPosts rules.posts (DoesBeside seats (command.Post by seq event))
DoesAs seats rules command.Who = TellsSeats seats rules.names
DoesAs seats rules done = DoesBeside seats done

-- what a command does; to a line that is none, another answer is told
abbrev pub ObeysAs : ℕ → Rules → Answer → Option Command → BesideValue → Answer → BesideValue → Type 0
ObeysAs seats rules other None = Tells other
ObeysAs seats rules other (Some done) = DoesAs seats rules done

-- what a line does: its answer, and what stands after it
abbrev pub CommandsAs : ℕ → Rules → List ℕ → BesideValue → Answer → BesideValue → Type 0
CommandsAs seats rules line = ObeysAs seats rules (other_answer (words_of line)) (command_of (words_of line))

-- what it may do stays
abbrev pub KeepsRules : SeatedValue → SeatedValue → Type 0
KeepsRules old new = new.rules ≡ old.rules

-- the same of who answers a session
abbrev pub DoesSeated : ℕ → Command → SeatedValue → Answer → SeatedValue → Type 0
DoesSeated seats done old a new = DoesAs seats old.rules done old.beside a new.beside × KeepsRules old new

abbrev pub CommandsSeated : ℕ → List ℕ → SeatedValue → Answer → SeatedValue → Type 0
CommandsSeated seats line old a new = CommandsAs seats old.rules line old.beside a new.beside × KeepsRules old new

abbrev pub LosesSeated : ℕ → List ℕ → SeatedValue → SeatedValue → Type 0
LosesSeated seats line old new = LosesBeside seats line old.beside new.beside × KeepsRules old new
