-- The events that lines are taken for (own).
use Rattle.std.specs.Prelude.{ℕ, List, [], ◌∷◌, Option, Some, None, option_and_then}
use Rattle.net_building.specs.declared.wholes.Listed.{Listed}
use Rattle.net_building.specs.declared.wholes.Listed.TheVariants as listed
use Rattle.net_data.specs.declared.events.Event.{Event}
use Rattle.tokens.specs.Words.{words_of}
use Rattle.script_words.specs.Commands.{command_of}
use Rattle.script_words.specs.declared.commands.Command.{Command}
use Rattle.script_words.specs.declared.commands.Command.TheVariants as command
use Rattle.answers.specs.declared.answer.Answer.{Answer}
use Rattle.answers.specs.declared.answer.Answer.TheVariants as answer
use Rattle.answers.specs.declared.answer.Reply.TheVariants as reply

-- what a command posts, if it posts something: an event, or the change of a whole set or point
abbrev pub posts_of : Command → Option Listed
posts_of (command.Event event) = Some (listed.Event event)
posts_of (command.Whole w) = Some (listed.Whole w)
posts_of (command.Post collector seq event) = Some (listed.Event event)
posts_of done = None

-- what a line posts
abbrev pub posts_by : List ℕ → Option Listed
posts_by line = option_and_then posts_of (command_of (words_of line))

-- the event that is posted, if it is one by itself
abbrev pub event_in : Option Listed → List Event
event_in (Some (listed.Event event)) = event ∷ []
event_in (Some (listed.Whole w)) = []
event_in None = []

-- these events, if they are those of a whole set or point
abbrev pub events_in : List Event → Option Listed → List Event
events_in events (Some (listed.Event event)) = []
events_in events (Some (listed.Whole w)) = events
events_in events None = []

-- the events of a line that is answered `taken`
abbrev pub taken_by : List ℕ → Answer → List Event
taken_by line (answer.Reply (reply.Taken number)) = event_in (posts_by line)
taken_by line (answer.AllTaken taken) = events_in taken.events (posts_by line)
taken_by line a = []

-- the same of a line that may get no answer
abbrev pub taken_at : List ℕ → Option Answer → List Event
taken_at line None = []
taken_at line (Some a) = taken_by line a
