-- Runs of the desk over lists of steps, and what holds at each of their points (own).
use Rattle.std.specs.Prelude.{◌≡◌, ℕ, ◌-◌, ◌≤◌, List, [], ◌∷◌, ◌++◌, Option, Some, None, Ok, Err, Result, take, drop}
use Rattle.std.specs.Option.{MatchOption, option_map_or}
use Rattle.net_data.specs.declared.events.Event.{Event}
use Rattle.net_data.specs.Network.{Network}
use Rattle.work_units.specs.Work.{Work}
use Rattle.net_versions.specs.Versions.{VersionValue, IsSettledVersion, settled_tables}
use Rattle.path_trace.specs.Traces.{trace_at, trace_kept}
use Rattle.work_units.specs.declared.replies.Posted.{Posted}
use Rattle.work_units.specs.declared.replies.Posted.TheVariants.{Taken}
use Rattle.work_units.specs.declared.replies.Opened.{Opened}
use Rattle.work_units.specs.declared.replies.Refusal.{Refusal}
use Rattle.desk_core.specs.declared.steps.Step.{Step}
use Rattle.desk_core.specs.declared.steps.Step.TheVariants as step
use Rattle.desk_core.specs.declared.steps.Reply.{Reply}
use Rattle.desk_core.specs.declared.steps.Reply.TheVariants as reply
use Rattle.net_data.specs.Edits.{replay}
use Rattle.desk_core.specs.Desk.{DeskValue, accepted}
use Rattle.desk_core.specs.Steps.{Posts, Opens, Takes, Gives, Abandons, Publishes}

-- one step gives that reply, and leaves that desk
abbrev pub Steps : DeskValue → Step → Reply → DeskValue → Type 0
Steps old (step.Post collector seq event) answer new = (result : Result Posted Refusal) × (answer ≡ reply.Post result) × Posts old collector seq event result new
Steps old step.Open answer new = (result : Result Opened Refusal) × (answer ≡ reply.Open result) × Opens old result new
Steps old step.Take answer new = (result : Result Work Refusal) × (answer ≡ reply.Take result) × Takes old result new
Steps old (step.Give work) answer new = (result : Result (Unit {0}) (Work × Refusal)) × (answer ≡ reply.Give result) × Gives old work result new
Steps old (step.Abandon version dest) answer new = (result : Result (Unit {0}) Refusal) × (answer ≡ reply.Abandon result) × Abandons old version dest result new
Steps old step.Publish answer new = (result : Result ℕ Refusal) × (answer ≡ reply.Publish result) × Publishes old result new

-- the steps give these replies, one after another
abbrev pub Runs : DeskValue → List Step → List Reply → DeskValue → Type 0
Runs old [] [] new = new ≡ old
Runs old (step ∷ steps) (reply ∷ replies) new = (mid : DeskValue) × Steps old step reply mid × Runs mid steps replies new
Runs old [] (reply ∷ replies) new = ⊥
Runs old (step ∷ steps) [] new = ⊥

-- the event of a post that is answered Taken
abbrev pub event_taken : Event → Reply → List Event
event_taken event (reply.Post (Ok (Taken number))) = event ∷ []
event_taken event _ = []

-- the event that a step accepts: that of a post which is answered Taken
abbrev pub accepted_by : Step → Reply → List Event
accepted_by (step.Post collector seq event) answer = event_taken event answer
accepted_by step.Open answer = []
accepted_by step.Take answer = []
accepted_by (step.Give work) answer = []
accepted_by (step.Abandon version dest) answer = []
accepted_by step.Publish answer = []

-- the events that steps accept
abbrev pub accepted_in : List Step → List Reply → List Event
accepted_in (step ∷ steps) (reply ∷ replies) = accepted_by step reply ++ accepted_in steps replies
accepted_in _ _ = []

-- the accepted events of a desk and of the steps after it, up to a number
abbrev pub events_up_to : DeskValue → List Event → ℕ → List Event
events_up_to start more number = take (number - start.published.number) (start.pending ++ more)

-- the network after the accepted events up to a number
abbrev pub network_at : DeskValue → List Event → ℕ → Network
network_at start more number = replay start.published.network (events_up_to start more number)

-- the number of the published version, and of the one before it if that was published in the run
pub record Numbers : Type 0 where
  pub now : ℕ
  pub before : Option ℕ

-- the numbers after a reply: a publication tells the new one
abbrev pub numbers_by : Numbers → Reply → Numbers
numbers_by numbers (reply.Publish (Ok number)) = record { now = number; before = Some numbers.now }
numbers_by numbers (reply.Publish (Err refusal)) = numbers
numbers_by numbers (reply.Post result) = numbers
numbers_by numbers (reply.Open result) = numbers
numbers_by numbers (reply.Take result) = numbers
numbers_by numbers (reply.Give result) = numbers
numbers_by numbers (reply.Abandon result) = numbers

-- the numbers after replies
abbrev pub numbers_after : Numbers → List Reply → Numbers
numbers_after numbers [] = numbers
numbers_after numbers (reply ∷ replies) = numbers_after (numbers_by numbers reply) replies

-- the accepted events since the version before; those that the first version came with if none was published
abbrev pub batch_of : DeskValue → List Event → Numbers → List Event
batch_of start more numbers =
    option_map_or (λ before. drop (before - start.published.number) (events_up_to start more numbers.now)) numbers.before start.published.batch

-- a published version is the one of its number: its events are those since the version before, its network is that after the accepted events up to it,
-- what it keeps for each planned destination are the choices (class, members, status) of the table from scratch for that network, and the traces that these
-- choices give are those from scratch
pub record IsRightVersion (start : DeskValue) (more : List Event) (numbers : Numbers) (version : VersionValue) : Type 0 where
  pub number : version.number ≡ numbers.now
  pub batch : version.batch ≡ batch_of start more numbers
  pub network : version.network ≡ network_at start more numbers.now
  pub tables : version.tables ≡ settled_tables (network_at start more numbers.now)
  pub traces : (y x s : ℕ) → trace_kept version y x s ≡ trace_at (network_at start more numbers.now) y x s

-- the numbers before a run
abbrev pub first_numbers : DeskValue → Numbers
first_numbers start = record { now = start.published.number; before = None }

-- after steps with these replies the published version of a desk is the one of its number
abbrev pub IsRightAfter : DeskValue → List Step → List Reply → DeskValue → Type 0
IsRightAfter start steps replies s =
    IsRightVersion start (accepted_in steps replies) (numbers_after (first_numbers start) replies) s.published

-- a run goes on after steps that were done: each step gives its reply, and then the published version is the one of its number
abbrev pub GoesOnRight : DeskValue → List Step → List Reply → DeskValue → List Step → List Reply → DeskValue → Type 0
GoesOnRight start done told old [] [] new = new ≡ old
GoesOnRight start done told old (step ∷ steps) (reply ∷ replies) new =
    (mid : DeskValue) × Steps old step reply mid × IsRightAfter start (done ++ step ∷ []) (told ++ reply ∷ []) mid
    × GoesOnRight start (done ++ step ∷ []) (told ++ reply ∷ []) mid steps replies new
GoesOnRight start done told old [] (reply ∷ replies) new = ⊥
GoesOnRight start done told old (step ∷ steps) [] new = ⊥

-- the steps give these replies, and at every point of the run the published version is the one of its number
pub record IsRightThroughout (start : DeskValue) (steps : List Step) (replies : List Reply) (end : DeskValue) : Type 0 where
  pub first : IsRightAfter start [] [] start
  pub rest : GoesOnRight start [] [] start steps replies end

-- some steps lead from a desk to another, and accept these events
pub record IsRunOf (old : DeskValue) (events : List Event) (new : DeskValue) : Type 0 where
  pub steps : List Step
  pub replies : List Reply
  pub runs : Runs old steps replies new
  pub accepts : accepted_in steps replies ≡ events

-- an open target is not behind the published version, and not ahead of the accepted events
abbrev pub IsTargetAhead : DeskValue → Type 0
IsTargetAhead s = MatchOption s.target (Unit {0}) (λ t. (s.published.number ≤ t.number) × (t.number ≤ accepted s))

-- what every desk keeps: its target is ahead, and what the published version keeps is what its network gives
pub record IsSteadyDesk (s : DeskValue) : Type 0 where
  pub ahead : IsTargetAhead s
  pub version : IsSettledVersion s.published
