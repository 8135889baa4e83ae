-- What the words of a line command.
use Rattle.std.specs.Prelude.{ℕ, ◌<◌, Bool, true, false, if◌then◌else◌, List, [], ◌∷◌, Option, Some, None, option_map, option_and_then, codes}
use Rattle.std.specs.List.{slice_split}
use Rattle.std.specs.Option.{option_map_or}
use Rattle.std.specs.Str.{bytes_eq, is_utf8}
use Rattle.point_codes.specs.Codes.{code_of}
use Rattle.net_building.specs.declared.surveyed.Surveyed.{Surveyed}
use Rattle.net_building.specs.declared.surveyed.Surveyed.TheVariants as surveyed
use Rattle.net_building.specs.declared.wholes.Listed.{Listed}
use Rattle.net_building.specs.declared.wholes.Listed.TheVariants as listed
use Rattle.tokens.specs.Numbers.{id_of}
use Rattle.tokens.specs.Pieces.{all_of}
use Rattle.script_words.specs.Events.{event_of}
use Rattle.script_words.specs.Wholes.{listed_of}
use Rattle.script_words.specs.declared.moves.Moves.{Moves}
use Rattle.script_words.specs.declared.moves.Moves.TheVariants as moves
use Rattle.script_words.specs.declared.questions.Question.{Question}
use Rattle.script_words.specs.declared.questions.Question.TheVariants.{Status, Links, Messages, Octets, Why, Mend, MendAllowed, Remedy, RemedyAllowed}
use Rattle.script_words.specs.declared.shows.Show.{Show}
use Rattle.script_words.specs.declared.shows.Show.TheVariants as show
use Rattle.script_words.specs.declared.commands.Command.{Command}
use Rattle.script_words.specs.declared.command_words.CommandWord.{CommandWord}
use Rattle.script_words.specs.declared.command_words.CommandWord.TheVariants as word
use Rattle.script_words.specs.Numbers.{collector_of, sequence_of, slot_of, selection_of}

-- nothing: the first word stands alone
abbrev pub alone : Command → List (List ℕ) → Option Command
alone command [] = Some command
alone command _ = None

-- `C SEQ EVENT`
abbrev pub post_of : List (List ℕ) → Option Command
post_of (c ∷ seq ∷ event) = option_and_then (λ c. option_and_then (λ s. option_map (λ e. Command.Post c s e) (event_of event)) (sequence_of seq)) (collector_of c)
post_of _ = None

-- `K`
abbrev pub slot_alone : List (List ℕ) → Option ℕ
slot_alone (k ∷ []) = slot_of k
slot_alone _ = None

-- `C`
abbrev pub collector_alone : List (List ℕ) → Option ℕ
collector_alone (c ∷ []) = collector_of c
collector_alone _ = None

-- `lost`, `regained` or `moved`
abbrev pub moves_of : List ℕ → Option Moves
moves_of word =
    if bytes_eq word (codes "lost") then Some moves.Lost
    else if bytes_eq word (codes "regained") then Some moves.Regained
    else if bytes_eq word (codes "moved") then Some moves.Moved
    else None

-- one of these, or `N`: the number of a version
abbrev pub changes_by : List ℕ → Option Command
changes_by word =
    option_map_or (λ which. Some (Command.Changes None which)) (moves_of word) (option_map (λ n. Command.Changes (Some n) moves.All) (sequence_of word))

-- nothing, one of these, or `N` and one of the three
abbrev pub changes_of : List (List ℕ) → Option Command
changes_of [] = Some (Command.Changes None moves.All)
changes_of (word ∷ []) = changes_by word
changes_of (n ∷ kind ∷ []) = option_and_then (λ n. option_map (λ which. Command.Changes (Some n) which) (moves_of kind)) (sequence_of n)
changes_of _ = None

-- something of the row of a point in the table of a destination, if both are there
abbrev pub about : Question → Option ℕ → Option ℕ → Option Command
about asked point dest = option_and_then (λ y. option_map (λ x. Command.About asked y x) dest) point

-- `Y X`
abbrev pub about_of : Question → List (List ℕ) → Option Command
about_of asked (y ∷ x ∷ []) = about asked (code_of y) (code_of x)
about_of asked _ = None

-- `Y X`, of which the first question is asked, or `allowed Y X`, of which the second is
abbrev pub about_either : Question → Question → List (List ℕ) → Option Command
about_either reached allowed (goal ∷ rest) = if bytes_eq goal (codes "allowed") then about_of allowed rest else about_of reached (goal ∷ rest)
about_either reached allowed [] = None

-- `Y Z X`
abbrev pub octets_of : List (List ℕ) → Option Command
octets_of (y ∷ z ∷ x ∷ []) = option_and_then (λ z. about (Octets z) (code_of y) (code_of x)) (code_of z)
octets_of _ = None

-- `Y X S`
abbrev pub trace_of : List (List ℕ) → Option Command
trace_of (y ∷ x ∷ s ∷ []) = option_and_then (λ y. option_and_then (λ x. option_map (λ s. Command.Trace y x s) (selection_of s)) (code_of x)) (code_of y)
trace_of _ = None

-- `set ID`, `point CODE` or `plan X`
abbrev pub shown_by : List ℕ → List ℕ → Option Show
shown_by what which =
    if bytes_eq what (codes "set") then option_map (λ id. show.Set id) (id_of which)
    else if bytes_eq what (codes "point") then option_map (λ y. show.Point y) (code_of which)
    else if bytes_eq what (codes "plan") then option_map (λ x. show.Plan x) (code_of which)
    else None

-- nothing, `down`, `set ID`, `point CODE` or `plan X`
abbrev pub show_of : List (List ℕ) → Option Show
show_of [] = Some show.Size
show_of (what ∷ []) = if bytes_eq what (codes "down") then Some show.Down else None
show_of (what ∷ which ∷ []) = shown_by what which
show_of _ = None

-- `X`
abbrev pub statuses_asked : List (List ℕ) → Option Show
statuses_asked (x ∷ []) = option_map (λ x. show.Statuses x) (code_of x)
statuses_asked _ = None

-- `on` or `off`
abbrev pub switch_of : List (List ℕ) → Option Bool
switch_of (what ∷ []) = if bytes_eq what (codes "on") then Some true else if bytes_eq what (codes "off") then Some false else None
switch_of _ = None

-- the name of a file: a text in UTF-8
abbrev pub name_of : List ℕ → Option (List ℕ)
name_of word = if is_utf8 word then Some word else None

-- no word, or `X`
abbrev pub destination_of : List (List ℕ) → Option (Option ℕ)
destination_of [] = Some None
destination_of (x ∷ []) = option_map (λ x. Some x) (code_of x)
destination_of _ = None

-- `FILE` or `FILE X`
abbrev pub picture_of : List (List ℕ) → Option Command
picture_of (file ∷ rest) = option_and_then (λ about. option_map (λ name. Command.Picture name about) (name_of file)) (destination_of rest)
picture_of [] = None

-- `FILE`
abbrev pub save_of : List (List ℕ) → Option Command
save_of (file ∷ []) = option_map (λ name. Command.Save name) (name_of file)
save_of _ = None

-- the words before, between and after the words `;`, piece by piece
abbrev pub pieces_at : List (List ℕ) → List (List (List ℕ))
pieces_at words = slice_split (λ w. bytes_eq w (codes ";")) words

-- `EVENT ; EVENT ..`: what the pieces say, if each is an event, or the change of a whole set or point
abbrev pub events_of : List (List ℕ) → Option (List Listed)
events_of words = all_of listed_of (pieces_at words)

-- `sets`, `points` or `down`
abbrev pub surveyed_of : List ℕ → Option Surveyed
surveyed_of word =
    if bytes_eq word (codes "sets") then Some surveyed.Sets
    else if bytes_eq word (codes "points") then Some surveyed.Points
    else if bytes_eq word (codes "down") then Some surveyed.Down
    else None

-- nothing, or `EVENT ; EVENT ..`
abbrev pub events_if : List (List ℕ) → Option (List Listed)
events_if [] = Some []
events_if (word ∷ rest) = events_of (word ∷ rest)

-- one of the three words, alone or with events after it
abbrev pub survey_of : List (List ℕ) → Option Command
survey_of (what ∷ rest) = option_and_then (λ what. option_map (λ events. Command.Survey what events) (events_if rest)) (surveyed_of what)
survey_of [] = None

-- the first word of a command about the published network, or what moved it
abbrev pub net_word_of : List ℕ → Option CommandWord
net_word_of text =
    if bytes_eq text (codes "whatif") then Some word.WhatIf
    else if bytes_eq text (codes "reroutes") then Some word.Reroutes
    else if bytes_eq text (codes "survey") then Some word.Survey
    else if bytes_eq text (codes "warn") then Some word.Warn
    else if bytes_eq text (codes "show") then Some word.Show
    else if bytes_eq text (codes "statuses") then Some word.Statuses
    else if bytes_eq text (codes "audit") then Some word.Audit
    else if bytes_eq text (codes "changes") then Some word.Changes
    else if bytes_eq text (codes "watch") then Some word.Watch
    else if bytes_eq text (codes "picture") then Some word.Picture
    else if bytes_eq text (codes "save") then Some word.Save
    else None

-- the first word of a command that is neither an event nor a question about a row
abbrev pub desk_word_of : List ℕ → Option CommandWord
desk_word_of text =
    if bytes_eq text (codes "sync") then Some word.Sync
    else if bytes_eq text (codes "post") then Some word.Post
    else if bytes_eq text (codes "open") then Some word.Open
    else if bytes_eq text (codes "take") then Some word.Take
    else if bytes_eq text (codes "give") then Some word.Give
    else if bytes_eq text (codes "abandon") then Some word.Abandon
    else if bytes_eq text (codes "publish") then Some word.Publish
    else if bytes_eq text (codes "version") then Some word.Version
    else if bytes_eq text (codes "last") then Some word.Last
    else if bytes_eq text (codes "who") then Some word.Who
    else net_word_of text

-- the first word of a command that is no event
abbrev pub command_word_of : List ℕ → Option CommandWord
command_word_of text =
    if bytes_eq text (codes "status") then Some word.Status
    else if bytes_eq text (codes "sls") then Some word.Sls
    else if bytes_eq text (codes "messages") then Some word.Messages
    else if bytes_eq text (codes "octets") then Some word.Octets
    else if bytes_eq text (codes "why") then Some word.Why
    else if bytes_eq text (codes "mend") then Some word.Mend
    else if bytes_eq text (codes "remedy") then Some word.Remedy
    else if bytes_eq text (codes "trace") then Some word.Trace
    else desk_word_of text

-- the command of a first word and the words after it
abbrev pub command_by : CommandWord → List (List ℕ) → Option Command
-- `status Y X`
command_by word.Status rest = about_of Status rest
-- `sls Y X`
command_by word.Sls rest = about_of Links rest
-- `messages Y X`
command_by word.Messages rest = about_of Messages rest
-- `octets Y Z X`
command_by word.Octets rest = octets_of rest
-- `why Y X`
command_by word.Why rest = about_of Why rest
-- `mend Y X` and `mend allowed Y X`
command_by word.Mend rest = about_either Mend MendAllowed rest
-- `remedy Y X` and `remedy allowed Y X`
command_by word.Remedy rest = about_either Remedy RemedyAllowed rest
-- `trace Y X S`
command_by word.Trace rest = trace_of rest
-- `show`, `show down`, `show set ID`, `show point CODE` and `show plan X`
command_by word.Show rest = option_map (λ what. Command.Show what) (show_of rest)
-- `statuses X`
command_by word.Statuses rest = option_map (λ what. Command.Show what) (statuses_asked rest)
-- `sync`
command_by word.Sync rest = alone Command.Sync rest
-- `whatif EVENT ; EVENT ..`
command_by word.WhatIf rest = option_map (λ events. Command.WhatIf events) (events_of rest)
-- `reroutes EVENT ; EVENT ..`
command_by word.Reroutes rest = option_map (λ events. Command.Reroutes events) (events_of rest)
-- `survey sets`, `survey points` and `survey down`, and events after them
command_by word.Survey rest = survey_of rest
-- `warn`
command_by word.Warn rest = alone Command.Warn rest
-- `post C SEQ EVENT`
command_by word.Post rest = post_of rest
-- `open`
command_by word.Open rest = alone Command.Open rest
-- `take K`
command_by word.Take rest = option_map (λ k. Command.Take k) (slot_alone rest)
-- `give K`
command_by word.Give rest = option_map (λ k. Command.Give k) (slot_alone rest)
-- `abandon K`
command_by word.Abandon rest = option_map (λ k. Command.Abandon k) (slot_alone rest)
-- `publish`
command_by word.Publish rest = alone Command.Publish rest
-- `version`
command_by word.Version rest = alone Command.Version rest
-- `last C`
command_by word.Last rest = option_map (λ c. Command.Last c) (collector_alone rest)
-- `who`
command_by word.Who rest = alone Command.Who rest
-- `audit`
command_by word.Audit rest = alone Command.Audit rest
-- `changes` and `changes N`, and these with `lost`, `regained` or `moved` after them
command_by word.Changes rest = changes_of rest
-- `watch on` and `watch off`
command_by word.Watch rest = option_map (λ is_on. Command.Watch is_on) (switch_of rest)
-- `picture FILE` and `picture FILE X`
command_by word.Picture rest = picture_of rest
-- `save FILE`
command_by word.Save rest = save_of rest

-- an event is a command, and so is the change of a whole set or point
abbrev pub command_listed : Listed → Command
command_listed (listed.Event event) = Command.Event event
command_listed (listed.Whole changed) = Command.Whole changed

-- the command that the words of a line say: by its first word if that is a command's, else the line is an EVENT, or the change of a whole set or point
abbrev pub command_of : List (List ℕ) → Option Command
command_of (first ∷ rest) =
    option_map_or (λ w. command_by w rest) (command_word_of first) (option_map command_listed (listed_of (first ∷ rest)))
command_of [] = None

-- the slot, or the signalling link selection, is within its range
abbrev pub IsWithin : Command → Type 0
IsWithin (Command.Take k) = k < 32
IsWithin (Command.Give k) = k < 32
IsWithin (Command.Abandon k) = k < 32
IsWithin (Command.Trace y x s) = s < 16
IsWithin command = Unit {0}
