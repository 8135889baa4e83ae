-- What the words of a line do (own).
use Rattle.std.specs.Prelude.{ℕ, List, Option, Some, None}
use Rattle.tokens.specs.Words.{words_of}
use Rattle.script_words.specs.Commands.{command_of}
use Rattle.script_words.specs.declared.commands.Command.{Command}
use Rattle.desk_console.specs.Console.{ConsoleValue}
use Rattle.answers.specs.Help.{other_answer}
use Rattle.answers.specs.declared.answer.Answer.{Answer}
use Rattle.desk_console.specs.Does.{Tells, Does}

-- what a command does; to a line that is none, another answer is told
abbrev pub Obeys : Answer → Option Command → ConsoleValue → Answer → ConsoleValue → Type 0
Obeys other None c = Tells other c
Obeys other (Some command) c = Does command c

-- what a line does: its answer, and what stands after it
abbrev pub Commands : List ℕ → ConsoleValue → Answer → ConsoleValue → Type 0
Commands line c = Obeys (other_answer (words_of line)) (command_of (words_of line)) c
