-- What a command does at a console, and its answer (own).
use Rattle.std.specs.Prelude.{◌≡◌, ◌≢◌, ◌<◌, ◌≤◌, ℕ, ◌+◌, ◌-◌, ◌^◌, ◌==◌, ◌||◌, nat_lt, Bool, true, false, if◌then◌else◌, List, [], ◌∷◌, length, Option, Some, None, option_map, Result, Ok, Err, slice_set}
use Rattle.std.specs.Option.{option_or}
use Rattle.net_data.specs.Network.{Network}
use Rattle.net_data.specs.Edits.{apply_all}
use Rattle.net_data.specs.declared.events.Event.{Event}
use Rattle.net_data.specs.declared.events.Refusal.TheVariants.{NoSet}
use Rattle.net_building.specs.Wholes.{whole_events, whole_refusal}
use Rattle.net_building.specs.declared.wholes.Whole.{Whole}
use Rattle.work_units.specs.Work.{Work}
use Rattle.work_units.specs.declared.replies.Refusal.{Refusal}
use Rattle.work_units.specs.declared.replies.Refusal.TheVariants.{OutOfMemory, EndOfNumbers, BacklogFull, Edit}
use Rattle.desk_core.specs.Desk.{DeskValue, accepted, net_now}
use Rattle.desk_core.specs.Steps.{last_of, Posts, Opens, Takes, Gives, Abandons, Publishes}
use Rattle.desk_core.specs.Runs.{IsRunOf}
use Rattle.desk_console.specs.Syncing.{synced}
use Rattle.answers.specs.Replies.{abandoned_answer, given_answer, job_answer, opened_answer, posted_answer, refused}
use Rattle.answers.specs.declared.answer.Answer.{Answer}
use Rattle.answers.specs.declared.answer.Answer.TheVariants as answer
use Rattle.answers.specs.declared.answer.Moved.{Moved}
use Rattle.answers.specs.declared.answer.NetAnswer.TheVariants as net_answer
use Rattle.answers.specs.declared.answer.Publication.TheVariants as publication
use Rattle.answers.specs.declared.answer.Reason.TheVariants as reason
use Rattle.answers.specs.declared.answer.Reply.TheVariants as reply
use Rattle.script_words.specs.declared.commands.Command.{Command}
use Rattle.script_words.specs.declared.commands.Command.TheVariants as command
use Rattle.desk_console.specs.Asked.{asked_answer}
use Rattle.desk_console.specs.Console.{ConsoleValue, net_of, slot_of}
use Rattle.desk_console.specs.Watch.{WatchValue, changes_told, notice, watched}

-- ---- what is told

-- an answer is told, and nothing changes
abbrev pub Tells : Answer → ConsoleValue → Answer → ConsoleValue → Type 0
Tells told c a new = (a ≡ told) × (new ≡ c)

-- the number of the published version, and how many events are accepted
abbrev pub version_of : DeskValue → Answer
version_of s = answer.Reply (reply.Version s.published.number (accepted s))

-- a collector's last sequence number
abbrev pub last_told : DeskValue → ℕ → Answer
last_told s collector = answer.Reply (reply.Last (last_of s collector).seq)

-- the network after all accepted events, for a file
abbrev pub save_told : List ℕ → Network → Answer
save_told file net = answer.Net (net_answer.Saving file net)

-- of a publication
abbrev pub published_answer : Option Moved → Result ℕ Refusal → Answer
published_answer moved (Ok number) = answer.Publication (publication.Published number moved)
published_answer moved (Err refusal) = refused refusal

-- ---- calls of the desk

-- memory did not run out
abbrev pub HasMemory : {T : Type 0} → Result T Refusal → Type 0
HasMemory result = result ≢ Err OutOfMemory

-- a call of the desk gives a reply, which is told; the slots stay, and what is kept for `changes`
abbrev pub Calls : {T : Type 0} → (DeskValue → Result T Refusal → DeskValue → Type 0) → (Result T Refusal → Answer) → ConsoleValue → Answer → ConsoleValue → Type 0
Calls {T} Step answer_of c a new =
    (result : Result T Refusal) × Step c.desk result new.desk × HasMemory result × (a ≡ answer_of result) × (new.slots ≡ c.slots) × (new.watch ≡ c.watch)

-- the sequence number after a collector's last one is a number, or there is none
abbrev pub PostsAfter : Bool → ℕ → Event → ConsoleValue → Answer → ConsoleValue → Type 0
PostsAfter true collector event c = Tells (refused EndOfNumbers) c
PostsAfter false collector event c = Calls (λ s. Posts s collector ((last_of s collector).seq + 1) event) posted_answer c

-- a collector posts an event under the sequence number after its last one
abbrev pub PostsNext : ℕ → Event → ConsoleValue → Answer → ConsoleValue → Type 0
PostsNext collector event c = PostsAfter ((last_of c.desk collector).seq == 2 ^ 64 - 1) collector event c

-- ---- whole sets and points

-- what stands against so many posts of a collector: its numbers or those of events end before, or there is no room for all
abbrev pub count_refusal : DeskValue → ℕ → ℕ → Option Refusal
count_refusal s collector n =
    if nat_lt (2 ^ 64 - 1) ((last_of s collector).seq + n) || nat_lt (2 ^ 64 - 1) (accepted s + n) then Some EndOfNumbers
    else if nat_lt 65536 (length s.pending + n) then Some BacklogFull else None

-- what stands against the posting of all these events: there is no set that is changed, or there are too many
abbrev pub events_refusal : DeskValue → ℕ → List Event → Option Refusal
events_refusal s collector events = if length events == 0 then Some (Edit NoSet) else count_refusal s collector (length events)

-- what stands against the change of a whole set or point, in the network after all accepted events
abbrev pub whole_against : DeskValue → ℕ → Whole → Option Refusal
whole_against s collector w = option_or (option_map (λ r. Edit r) (whole_refusal (net_now s) w)) (events_refusal s collector (whole_events (net_now s) w))

-- a collector can post these events one after the other, and the desk accepts each
pub record CanPost (collector : ℕ) (events : List Event) (s : DeskValue) : Type 0 where
  pub numbers : (last_of s collector).seq + length events < 2 ^ 64
  pub counted : accepted s + length events < 2 ^ 64
  pub room : length s.pending + length events ≤ 65536
  pub accepted_all : (new : Network) × (apply_all (net_now s) events ≡ Ok new)

-- the answer to the event that is accepted next
abbrev pub taken_next : DeskValue → Answer
taken_next s = answer.Reply (reply.Taken (accepted s + 1))

-- a collector posts these events one after the other, and each is answered `taken`
abbrev pub PostsEach : ℕ → List Event → ConsoleValue → ConsoleValue → Type 0
PostsEach collector [] c new = new ≡ c
PostsEach collector (event ∷ events) c new = (mid : ConsoleValue) × PostsNext collector event c (taken_next c.desk) mid × PostsEach collector events mid new

-- all these events are accepted, under the numbers that come next
abbrev pub all_taken : DeskValue → List Event → Answer
all_taken s events = answer.AllTaken (record { first = accepted s + 1; last = accepted s + length events; events = events })

-- a collector posts all of these events, or none if something stands against that
abbrev pub PostsAll : Option Refusal → ℕ → List Event → ConsoleValue → Answer → ConsoleValue → Type 0
PostsAll (Some refusal) collector events c a new = Tells (refused refusal) c a new
PostsAll None collector events c a new = (a ≡ all_taken c.desk events) × PostsEach collector events c new

-- a collector posts the events of the change of a whole set or point, all or none
abbrev pub PostsWhole : ℕ → Whole → ConsoleValue → Answer → ConsoleValue → Type 0
PostsWhole collector w c = PostsAll (whole_against c.desk collector w) collector (whole_events (net_now c.desk) w) c

-- ---- slots

-- the slots after a job was asked for: its result goes to the slot
abbrev pub slots_taken : ℕ → List (Option Work) → Result Work Refusal → List (Option Work)
slots_taken k slots (Ok job) = slice_set slots k (Some job)
slots_taken k slots (Err refusal) = slots

-- a job is taken and done, and its result kept in the slot
abbrev pub TakesTo : ℕ → ConsoleValue → Answer → ConsoleValue → Type 0
TakesTo k c a new =
    (result : Result Work Refusal) × Takes c.desk result new.desk × HasMemory result × (a ≡ job_answer result) × (new.slots ≡ slots_taken k c.slots result) × (new.watch ≡ c.watch)

-- the slots after a result was given: its slot is empty, or keeps it if it was refused
abbrev pub slots_given : ℕ → List (Option Work) → Result (Unit {0}) (Work × Refusal) → List (Option Work)
slots_given k slots (Ok done) = slice_set slots k None
slots_given k slots (Err back) = slots

-- the result in the slot is given
abbrev pub GivesFrom : ℕ → Option Work → ConsoleValue → Answer → ConsoleValue → Type 0
GivesFrom k None c a new = Tells (answer.Refused reason.BadLine) c a new
GivesFrom k (Some work) c a new =
    (result : Result (Unit {0}) (Work × Refusal)) × Gives c.desk work result new.desk × (a ≡ given_answer result) × (new.slots ≡ slots_given k c.slots result) × (new.watch ≡ c.watch)

-- the destination of the result in the slot is abandoned, for the version of that result
abbrev pub AbandonsOf : Option Work → ConsoleValue → Answer → ConsoleValue → Type 0
AbandonsOf None c = Tells (answer.Refused reason.BadLine) c
AbandonsOf (Some work) c = Calls (λ s. Abandons s work.version work.excerpt.plan.dest) abandoned_answer c

-- ---- publications

-- what is told behind the reply where a command leaves this desk
abbrev pub notice_of : ConsoleValue → DeskValue → Option Moved
notice_of c new = notice c.watch c.desk.published new.published

-- what is kept for `changes` then
abbrev pub watch_of : ConsoleValue → DeskValue → WatchValue
watch_of c new = watched c.watch c.desk.published new.published

-- the target is published
abbrev pub PublishesTarget : ConsoleValue → Answer → ConsoleValue → Type 0
PublishesTarget c a new =
    (result : Result ℕ Refusal) × Publishes c.desk result new.desk × HasMemory result × (a ≡ published_answer (notice_of c new.desk) result)
    × (new.slots ≡ c.slots) × (new.watch ≡ watch_of c new.desk)

-- all that is accepted is published, by steps of the desk that accept nothing
abbrev pub Syncs : ConsoleValue → Answer → ConsoleValue → Type 0
Syncs c a new =
    (a ≡ answer.Publication (publication.Synced (accepted c.desk) (notice_of c (synced c.desk))))
    × (new ≡ record c { desk = synced c.desk; watch = watch_of c (synced c.desk) }) × IsRunOf c.desk [] new.desk

-- what moves is told behind each publication from now on, or no more
abbrev pub Watches : Bool → ConsoleValue → Answer → ConsoleValue → Type 0
Watches is_on c a new = (a ≡ answer.Reply (reply.Watch is_on)) × (new ≡ record c { watch = record c.watch { is_on = is_on } })

-- what is asked is answered from the published version
abbrev pub Asks : Command → ConsoleValue → Answer → ConsoleValue → Type 0
Asks asked c = Tells (asked_answer asked c.desk.published) c

-- ---- all commands

-- what a command does
abbrev pub Does : Command → ConsoleValue → Answer → ConsoleValue → Type 0
-- EVENT
Does (command.Event event) c = PostsNext 0 event c
-- `set CHANGE ID END` and `point CHANGE CODE END`
Does (command.Whole w) c = PostsWhole 0 w c
-- `post C SEQ EVENT`
Does (command.Post collector seq event) c = Calls (λ s. Posts s collector seq event) posted_answer c
-- `open`
Does command.Open c = Calls Opens opened_answer c
-- `take K`
Does (command.Take k) c = TakesTo k c
-- `give K`
Does (command.Give k) c = GivesFrom k (slot_of c k) c
-- `abandon K`
Does (command.Abandon k) c = AbandonsOf (slot_of c k) c
-- `publish`
Does command.Publish c = PublishesTarget c
-- `sync`
Does command.Sync c = Syncs c
-- `version`
Does command.Version c = Tells (version_of c.desk) c
-- `last C`
Does (command.Last collector) c = Tells (last_told c.desk collector) c
-- `who`: a script in line has no seats
Does command.Who c = Tells (answer.Refused reason.BadLine) c
-- `save FILE`
Does (command.Save file) c = Tells (save_told file (net_of c)) c
-- a question
Does (command.About asked y x) c = Asks (command.About asked y x) c
Does (command.Trace y x s) c = Asks (command.Trace y x s) c
Does (command.WhatIf events) c = Asks (command.WhatIf events) c
Does (command.Reroutes events) c = Asks (command.Reroutes events) c
-- `survey sets`, `survey points` and `survey down`, and events after them
Does (command.Survey what events) c = Asks (command.Survey what events) c
Does command.Warn c = Asks command.Warn c
Does command.Audit c = Asks command.Audit c
Does (command.Picture file about) c = Asks (command.Picture file about) c
Does (command.Show what) c = Asks (command.Show what) c
-- `changes` and `changes N`
Does (command.Changes since which) c = Tells (changes_told c.watch which since c.desk.published) c
-- `watch on` and `watch off`
Does (command.Watch is_on) c = Watches is_on c
