-- What many sessions at one desk were told: one history (own).
use Rattle.std.specs.Prelude.{◌≡◌, ◌≢◌, ◌⊎◌, ◌<◌, ℕ, ◌+◌, List, [], ◌∷◌, ◌++◌, Option, Some, None, length, map, slice_index_or}
use Rattle.std.specs.Io.KnownBytes.{Consumes, Appends, IsAtEnd}
use mathlib.Core.List.{IsPrefix}
use Rattle.net_building.specs.Wholes.{whole_events}
use Rattle.net_building.specs.declared.wholes.Listed.{Listed}
use Rattle.net_building.specs.declared.wholes.Listed.TheVariants as listed
use Rattle.net_data.specs.declared.events.Event.{Event}
use Rattle.net_data.specs.Edits.{replay}
use Rattle.net_data.specs.Network.{Network}
use Rattle.net_versions.specs.Versions.{VersionValue}
use Rattle.answers.specs.Who.{seat_counts}
use Rattle.answers.specs.declared.answer.Answer.{Answer}
use Rattle.answers.specs.declared.answer.Answer.TheVariants as answer
use Rattle.answers.specs.declared.answer.Reply.TheVariants as reply
use Rattle.script_words.specs.declared.commands.Command.TheVariants as command
use Rattle.desk_core.specs.Desk.{new_desk}
use Rattle.desk_console.specs.Taken.{posts_by, taken_at}
use Rattle.sessions.specs.Lines.{line_count, lines_of, trimmed, whole_lines}
use Rattle.sessions.specs.Replies.{AreTexts, Replies}
use Rattle.sessions.specs.Run.{IsFrontOf}
use Rattle.sessions.specs.declared.faults.Fault.{Fault}
use Rattle.sessions.specs.declared.faults.Fault.TheVariants.{NoPlace, OutOfMemory, Read, Load}
use Rattle.versions.specs.Authors.{Authored, counts_of, events_by, events_in}
use Rattle.histories.specs.Histories.{AreOfSeats, IsNth}
use Rattle.histories.specs.Right.{AreRight}
use Rattle.beside.specs.Beside.{BesideValue, StartsBeside}
use Rattle.beside.specs.Right.{Moment, told_in}
use Rattle.beside.specs.Synced.{command_in}
use Rattle.serving.specs.declared.channels.Channel.{Channel}
use Rattle.serving.specs.declared.channels.Rules.{Rules}
use Rattle.serving.specs.declared.channels.SessionEnd.{SessionEnd}
use Rattle.serving.specs.Seated.{CommandsAs}

-- the number that `taken N` tells, or the first of those that `taken FIRST to LAST` tells
abbrev pub first_number : Option Answer → ℕ
first_number (Some (answer.Reply (reply.Taken number))) = number
first_number (Some (answer.AllTaken taken)) = taken.first
first_number told = 0

-- the accepted events of this number and of those after it are these, and they came through this seat
abbrev pub AreNumbered : List Authored → ℕ → List Event → ℕ → Type 0
AreNumbered all me [] number = Unit {0}
AreNumbered all me (event ∷ events) number = IsNth all number (record { by = me; event = event }) × AreNumbered all me events (number + 1)

-- it tells of each seat by its name how many events of a beginning of the one list had come through it
abbrev pub IsCounted : ℕ → List (List ℕ) → List Authored → Option Answer → Type 0
IsCounted seats names all told = (before : List Authored) × IsPrefix before all × (told ≡ Some (answer.Who (seat_counts names (counts_of seats before))))

-- a line is answered from what the line before left; if it is answered `taken`, then with the numbers that its events have; what `who` tells are counts
-- of the one list; and its view doesn't go back
pub record IsTold (seats : ℕ) (rules : Rules) (all : List Authored) (me : ℕ) (before : BesideValue) (m : Moment) : Type 0 where
  pub replies : Replies (CommandsAs seats rules) m.line before m.told m.after
  pub numbers : AreNumbered all me (taken_at (trimmed m.line) m.told) (first_number m.told)
  pub counts : command_in m.line ≡ Some command.Who → IsCounted seats rules.names all m.told
  pub back : IsPrefix before.seen m.after.seen

-- so it is with one line after the other
abbrev pub AreTold : ℕ → Rules → List Authored → ℕ → BesideValue → List Moment → Type 0
AreTold seats rules all me before [] = Unit {0}
AreTold seats rules all me before (m ∷ moments) = IsTold seats rules all me before m × AreTold seats rules all me m.after moments

-- all that was seen at these lines are published versions
abbrev pub AreSeen : List VersionValue → List Moment → Type 0
AreSeen shown [] = Unit {0}
AreSeen shown (m ∷ moments) = IsPrefix m.after.seen shown × AreSeen shown moments

-- the events that lines were answered `taken` for
abbrev pub taken_of : List Moment → List Event
taken_of [] = []
taken_of (m ∷ moments) = taken_at (trimmed m.line) m.told ++ taken_of moments

-- the lines of moments
abbrev pub lines_in : List Moment → List (List ℕ)
lines_in = map (λ (m : Moment). m.line)

-- what a line may have posted whose answer was lost: its event, or the first of the events that a whole set or point means in some network, or all
abbrev pub IsPosted : Option Listed → List Event → Type 0
IsPosted None events = events ≡ []
IsPosted (Some (listed.Event event)) events = events ≡ event ∷ []
IsPosted (Some (listed.Whole w)) events = (net : Network) × IsPrefix events (whole_events net w)

-- no event, or what the first of some lines posted, whose answer was lost
abbrev pub IsLost : List (List ℕ) → List Event → Type 0
IsLost [] lost = lost ≡ []
IsLost (line ∷ lines) lost = (lost ≡ []) ⊎ IsPosted (posts_by (trimmed line)) lost

-- by the fault that ended the lines: these lines were read, of whose answers this was written; of the lines that weren't answered one may have posted
abbrev pub AreWritten : (Answer → List ℕ → Type 0) → Option Fault → Option (List ℕ) → List ℕ → List ℕ → List Moment → List Event → Type 0
AreWritten Tells None left read written moments lost = IsAtEnd left × (lines_of read ≡ lines_in moments) × AreTexts Tells (told_in moments) written × (lost ≡ [])
AreWritten Tells (Some Read) left read written moments lost = (whole_lines read ≡ lines_in moments) × AreTexts Tells (told_in moments) written × (lost ≡ [])
AreWritten Tells (Some (Load e)) left read written moments lost = ⊥
AreWritten Tells (Some fault) left read written moments lost =
    (rest : List (List ℕ)) × (lines_of read ≡ lines_in moments ++ rest) × IsFrontOf Tells (told_in moments) written × IsLost rest lost

-- what a session was told: some bytes were read; their lines were answered one after the other, of which this was written; of the one list of events those
-- that came through its seat are those that it was answered `taken` for, in their order, and those of one line at most whose answer was lost
pub record IsToldSession (Tells : Answer → List ℕ → Type 0) (start : Network) (seats : ℕ) (rules : Rules) (all : List Authored) (shown : List VersionValue)
    (me : ℕ) (unread left held holds : Option (List ℕ)) (fault : Option Fault) (lines : ℕ) : Type 0 where
  pub read : List ℕ
  pub consumed : Consumes unread left read
  pub written : List ℕ
  pub appended : Appends held holds written
  pub counted : lines ≡ line_count written
  pub opening : BesideValue
  pub opens : StartsBeside start opening
  pub moments : List Moment
  pub each : AreTold seats rules all me opening moments
  pub seen : fault ≢ Some NoPlace → AreSeen shown moments
  pub lost : List Event
  pub own : events_by me all ≡ taken_of moments ++ lost
  pub ended : Option Fault
  pub cause : (fault ≡ ended) ⊎ (fault ≡ Some NoPlace)
  pub outcome : AreWritten Tells ended left read written moments lost

-- one list of accepted events, each with its seat, and one chain of published versions, each the one of its number
pub record IsOneHistory (start : Network) (seats : ℕ) (all : List Authored) (shown : List VersionValue) : Type 0 where
  pub authors : AreOfSeats seats all
  pub right : AreRight (new_desk start) (events_in all) None shown

-- why the sessions of a desk can't begin: memory or places for them are refused
abbrev pub CannotBegin : Fault → Type 0
CannotBegin OutOfMemory = Unit {0}
CannotBegin NoPlace = Unit {0}
CannotBegin fault = ⊥

module _ {R W T : Type 0} (remaining : R → Option (List ℕ)) (contents : W → Option (List ℕ)) (tells : T → Answer → List ℕ → Type 0) where
  -- the session of a number, of those that were given, was told parts of the one history, and ended so
  abbrev pub IsSessionOf : Network → ℕ → List Authored → List VersionValue → ℕ → Channel R W T → SessionEnd R W → Type 0
  IsSessionOf start seats all shown me c e =
      IsToldSession (tells c.telling) start seats c.rules all shown me (remaining c.reader) (remaining e.reader) (contents c.writer) (contents e.writer) e.fault e.lines

  -- many sessions at one desk: one list of accepted events, each with its session, and one chain of published versions explain what each of them was told;
  -- the network that comes back is the one after all events
  pub record IsServed (start : Network) (channels : List (Channel R W T)) (ends : List (SessionEnd R W)) (net : Option Network) : Type 0 where
    pub all : List Authored
    pub shown : List VersionValue
    pub history : IsOneHistory start (length channels) all shown
    pub each_one : length ends ≡ length channels
    pub told : (i : ℕ) (c : Channel R W T) (e : SessionEnd R W) → i < length channels → IsSessionOf start (length channels) all shown i (slice_index_or channels i c) (slice_index_or ends i e)
    pub network : (after : Network) → net ≡ Some after → after ≡ replay start (events_in all)
