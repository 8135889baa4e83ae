-- What workers do to a desk and its chain (own).
use Rattle.std.specs.Prelude.{◌≡◌, ◌<◌, ◌⊎◌, ℕ, false, List, [], ◌∷◌, ◌++◌, Result, Ok, Err}
use Rattle.atomic_table.specs.Seated.{TableId}
use Rattle.seats.specs.Minutes.{AreBelow, MinutesValue, NoneOf, SeatValue, sight}
use Rattle.seats.specs.declared.rule.Sight.{Sight}
use Rattle.net_data.specs.declared.events.Event.{Event}
use Rattle.work_units.specs.declared.replies.Posted.{Posted}
use Rattle.work_units.specs.declared.replies.Refusal.{Refusal}
use Rattle.desk_core.specs.Desk.{new_desk}
use Rattle.desk_core.specs.Steps.{Posts}
use Rattle.net_versions.specs.Versions.{VersionValue}
use Rattle.desk_core.specs.declared.steps.Step.{Step}
use Rattle.desk_core.specs.declared.steps.Step.TheVariants as step
use Rattle.desk_core.specs.declared.steps.Reply.{Reply}
use Rattle.desk_core.specs.declared.steps.Reply.TheVariants as reply
use Rattle.desk_core.specs.Runs.{Steps}
use Rattle.versions.specs.Chains.{ChainPrefixValue}
use Rattle.versions.specs.declared.state.DeskAndChain.{DeskAndChain}
use Rattle.versions.specs.Hubs.{with_next}

-- every step but a post
abbrev pub IsOfWorker : Step → Type 0
IsOfWorker (step.Post collector seq event) = ⊥
IsOfWorker step.Open = Unit {0}
IsOfWorker step.Take = Unit {0}
IsOfWorker (step.Give work) = Unit {0}
IsOfWorker (step.Abandon version dest) = Unit {0}
IsOfWorker step.Publish = Unit {0}

-- the chain after a reply: a publication puts the published version at its end
abbrev pub shown_after : Reply → VersionValue → ChainPrefixValue → ChainPrefixValue
shown_after (reply.Publish (Ok number)) version shown = with_next shown version
shown_after (reply.Publish (Err refusal)) version shown = shown
shown_after (reply.Post result) version shown = shown
shown_after (reply.Open result) version shown = shown
shown_after (reply.Take result) version shown = shown
shown_after (reply.Give result) version shown = shown
shown_after (reply.Abandon result) version shown = shown

-- one step of a worker gives that reply
pub record Works (old : DeskAndChain) (one : Step) (answer : Reply) (new : DeskAndChain) : Type 0 where
  pub of_worker : IsOfWorker one
  pub made : Steps old.desk one answer new.desk
  pub shown : new.shown ≡ shown_after answer new.desk.published old.shown

-- steps of workers give these replies, one after another
abbrev pub AreWorks : DeskAndChain → List Step → List Reply → DeskAndChain → Type 0
AreWorks old [] [] new = new ≡ old
AreWorks old (one ∷ steps) (answer ∷ replies) new = (mid : DeskAndChain) × Works old one answer mid × AreWorks mid steps replies new
AreWorks old [] (answer ∷ replies) new = ⊥
AreWorks old (one ∷ steps) [] new = ⊥

-- a desk and its chain after steps of workers, in any order and number
abbrev pub IsWorkedOn : DeskAndChain → DeskAndChain → Type 0
IsWorkedOn old new = (steps : List Step) × (replies : List Reply) × AreWorks old steps replies new

-- ---- who came to a hub, and how it stood then

-- who is there posts an event
pub record IsCall (old new : DeskAndChain) : Type 0 where
  pub collector : ℕ
  pub seq : ℕ
  pub event : Event
  pub reply : Result Posted Refusal
  pub made : Posts old.desk collector seq event reply new.desk
  pub shown : new.shown ≡ old.shown

-- from one sight to the next workers made steps, or the one who was there posted
abbrev pub StepsTo : Sight DeskAndChain → Sight DeskAndChain → Type 0
StepsTo one next = IsWorkedOn one.state next.state ⊎ ((next.by ≡ one.by) × IsCall one.state next.state)

-- so does each of these to the next, from this one on
abbrev pub Follow : Sight DeskAndChain → List (Sight DeskAndChain) → Type 0
Follow one [] = Unit {0}
Follow one (next ∷ later) = StepsTo one next × Follow next later

-- the last of these, this one if there is none
abbrev pub last_sight : Sight DeskAndChain → List (Sight DeskAndChain) → Sight DeskAndChain
last_sight one [] = one
last_sight one (next ∷ later) = last_sight next later

-- one history: there is a first sight, and each leads to the next
abbrev pub IsHistory : List (Sight DeskAndChain) → Type 0
IsHistory [] = ⊥
IsHistory (first ∷ later) = Follow first later

-- no desk
abbrev pub nowhere : DeskAndChain
nowhere = record {
  desk = new_desk (record { ni = 0; tfr = false; points = []; sets = []; plans = [] });
  shown = record { book = record { number = 0; log_name = 0; cells_name = 0 }; chain = [] };
}

-- how the hub stood at the last sight
abbrev pub left_at : List (Sight DeskAndChain) → DeskAndChain
left_at [] = nowhere
left_at (first ∷ later) = (last_sight first later).state

-- the minutes of a hub are these, with so many seats; they are one history, and since the last sight only workers made steps
pub record IsAgreed (table : TableId) (seats : ℕ) (minutes : MinutesValue DeskAndChain) (state : DeskAndChain) : Type 0 where
  pub own : minutes.table ≡ table
  pub count : minutes.seats ≡ seats
  pub history : IsHistory minutes.log
  pub since : IsWorkedOn (left_at minutes.log) state

-- so it is with all minutes: one at a hub with seats, else none
abbrev pub AreKept : TableId → ℕ → DeskAndChain → List (MinutesValue DeskAndChain) → Type 0
AreKept table seats state [] = Unit {0}
AreKept table seats state (minutes ∷ more) = IsAgreed table seats minutes state × AreKept table seats state more

-- who has a seat comes to the hub that stands so: since its own last sight only others came, all of them from one of so many seats, and all that
-- was seen is one history; since the last sight only workers made steps
pub record Comes (seats : ℕ) (old : SeatValue DeskAndChain) (found : DeskAndChain) (new : SeatValue DeskAndChain) : Type 0 where
  pub since : List (Sight DeskAndChain)
  pub saw : new ≡ record old { saw = (old.saw ++ since) ++ sight old.me found ∷ [] }
  pub others : NoneOf old.me since
  pub seat : old.me < seats
  pub below : AreBelow seats (old.saw ++ since)
  pub history : IsHistory new.saw
  pub worked : IsWorkedOn (left_at (old.saw ++ since)) found

-- and leaves it so
abbrev pub leaving : SeatValue DeskAndChain → DeskAndChain → SeatValue DeskAndChain
leaving there state = record there { saw = there.saw ++ sight there.me state ∷ [] }

-- the same, however it finds the hub and leaves it
abbrev pub ComesAndDoes : ℕ → SeatValue DeskAndChain → DeskAndChain → DeskAndChain → SeatValue DeskAndChain → Type 0
ComesAndDoes seats old found left new = (there : SeatValue DeskAndChain) × Comes seats old found there × (new ≡ leaving there left)

-- what a guest is: its seat is of these minutes, and what it saw is one history
pub record IsGuest (table : TableId) (seat : SeatValue DeskAndChain) : Type 0 where
  pub own : seat.table ≡ table
  pub history : IsHistory seat.saw

-- one history of so many seats, which ends so: since the last sight only workers made steps
pub record IsWholeHistory (seats : ℕ) (log : List (Sight DeskAndChain)) (state : DeskAndChain) : Type 0 where
  pub history : IsHistory log
  pub below : AreBelow seats log
  pub since : IsWorkedOn (left_at log) state
