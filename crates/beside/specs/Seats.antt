-- Where a seat goes while a line is answered, whether or not its answer comes about (own).
use Rattle.std.specs.Prelude.{◌≡◌, ◌⊎◌, ℕ, List, [], ◌∷◌, Option, Some, Result, Err, OnErr, OnOk}
use mathlib.Core.List.{IsPrefix}
use Rattle.net_data.specs.declared.events.Event.{Event}
use Rattle.net_data.specs.Network.{Network}
use Rattle.net_building.specs.Wholes.{whole_events}
use Rattle.net_building.specs.declared.wholes.Listed.{Listed}
use Rattle.net_building.specs.declared.wholes.Listed.TheVariants as listed
use Rattle.net_building.specs.declared.wholes.Whole.{Whole}
use Rattle.desk_core.specs.Runs.{event_taken}
use Rattle.desk_core.specs.declared.steps.Reply.TheVariants as reply
use Rattle.desk_console.specs.Taken.{posts_by}
use Rattle.seats.specs.Minutes.{SeatValue}
use Rattle.sessions.specs.declared.faults.Fault.{Fault}
use Rattle.sessions.specs.declared.faults.Fault.TheVariants.{NoPlace}
use Rattle.versions.specs.Working.{Comes, ComesAndDoes, IsCall}
use Rattle.versions.specs.declared.state.DeskAndChain.{DeskAndChain}
use Rattle.beside.specs.Beside.{BesideValue}

-- the seat stayed where it was, and its reader lost nothing
pub record StaysSeated (old new : BesideValue) : Type 0 where
  pub seat : new.seat ≡ old.seat
  pub seen : IsPrefix old.seen new.seen

-- the seat came to the hub, of so many seats, and changed nothing there; its reader lost nothing
pub record Came (seats : ℕ) (old new : BesideValue) : Type 0 where
  pub found : DeskAndChain
  pub comes : Comes seats old.seat found new.seat
  pub seen : IsPrefix old.seen new.seen

-- the seat came to the hub and posted this event there, however that was answered; its reader lost nothing
pub record CamePosting (seats : ℕ) (event : Event) (old new : BesideValue) : Type 0 where
  pub found : DeskAndChain
  pub left : DeskAndChain
  pub came : ComesAndDoes seats old.seat found left new.seat
  pub call : IsCall found left
  pub posted : call.event ≡ event
  pub seen : IsPrefix old.seen new.seen

-- the seat came to the hub and posted this event there, and it was accepted
pub record CameTaking (seats : ℕ) (event : Event) (old new : BesideValue) : Type 0 where
  pub posting : CamePosting seats event old new
  pub taken : event_taken event (reply.Post posting.call.reply) ≡ event ∷ []

-- the seat stayed where it was, or came and changed nothing, or posted an event that wasn't accepted
abbrev pub TakesNone : ℕ → BesideValue → BesideValue → Type 0
TakesNone seats old new =
    StaysSeated old new ⊎ (Came seats old new ⊎ ((event : Event) × (posting : CamePosting seats event old new) × (event_taken event (reply.Post posting.call.reply) ≡ [])))

-- the seat came once for each of these events, and each was accepted
abbrev pub TakesEach : ℕ → List Event → BesideValue → BesideValue → Type 0
TakesEach seats [] old new = TakesNone seats old new
TakesEach seats (event ∷ events) old new = (mid : BesideValue) × CameTaking seats event old mid × TakesEach seats events mid new

-- the first events of the change of a whole set or point were accepted, or all
pub record TakesSome (seats : ℕ) (w : Whole) (old new : BesideValue) : Type 0 where
  pub net : Network
  pub events : List Event
  pub first : IsPrefix events (whole_events net w)
  pub each : TakesEach seats events old new

-- the seat stayed where it was, or came and changed nothing, or came and posted what there is to post
abbrev pub Goes : ℕ → Option Listed → BesideValue → BesideValue → Type 0
Goes seats posted old new =
    StaysSeated old new ⊎ (Came seats old new
    ⊎ (((event : Event) × (posted ≡ Some (listed.Event event)) × CamePosting seats event old new) ⊎ ((w : Whole) × (posted ≡ Some (listed.Whole w)) × TakesSome seats w old new)))

-- where the answer to a line is lost, its seat may have come, and posted
abbrev pub LosesBeside : ℕ → List ℕ → BesideValue → BesideValue → Type 0
LosesBeside seats line = Goes seats (posts_by line)

-- who is done comes to the hub for the last time, and keeps the seat; unless there is a fault, all that its reader knows begins what is published there
pub record Parts (seats : ℕ) (old : BesideValue) (told : Result (Unit {0}) Fault) (seat : SeatValue DeskAndChain) : Type 0 where
  pub found : DeskAndChain
  pub comes : Comes seats old.seat found seat
  pub seen : OnOk told (IsPrefix old.seen found.shown.chain)
  pub fault : OnErr told (told ≡ Err NoPlace)
