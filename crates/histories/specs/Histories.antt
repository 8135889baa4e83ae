-- The one history of all who come to a hub (own).
use Rattle.std.specs.Prelude.{◌≡◌, ◌<◌, ◌+◌, ℕ, List, [], ◌∷◌, ◌++◌, None, length}
use mathlib.Core.List.{IsPrefix}
use Rattle.net_data.specs.declared.events.Event.{Event}
use Rattle.net_data.specs.Edits.{replay}
use Rattle.net_data.specs.Network.{Network}
use Rattle.net_versions.specs.Versions.{settled_version}
use Rattle.desk_core.specs.Desk.{accepted, net_now, new_desk}
use Rattle.desk_core.specs.Runs.{IsRunOf}
use Rattle.seats.specs.Minutes.{SeatValue}
use Rattle.seats.specs.declared.rule.Sight.{Sight}
use Rattle.versions.specs.Authors.{Authored, authored, authored_in, events_in, events_of, own_events}
use Rattle.versions.specs.Working.{last_sight, left_at}
use Rattle.versions.specs.declared.state.DeskAndChain.{DeskAndChain}
use Rattle.histories.specs.Right.{AreRight}

-- ---- the hub of a new desk

-- a hub over a new desk, whose version 0 alone is published
pub record IsOpening (start : Network) (s : DeskAndChain) : Type 0 where
  pub desk : s.desk ≡ new_desk start
  pub chain : s.shown.chain ≡ settled_version 0 [] start ∷ []

-- the desk came from a new one by steps that accepted just its events, so many as it counts; and each published version is the one of its number
pub record IsRightHub (start : Network) (s : DeskAndChain) : Type 0 where
  pub came : IsRunOf (new_desk start) (events_of s) s.desk
  pub count : accepted s.desk ≡ length (events_of s)
  pub right : AreRight (new_desk start) (events_of s) None s.shown.chain

-- from this sight on each shows a right hub, and of the events and versions of each the next shows a continuation
abbrev pub AreRightSights : Network → Sight DeskAndChain → List (Sight DeskAndChain) → Type 0
AreRightSights start one [] = IsRightHub start one.state
AreRightSights start one (next ∷ later) =
    IsRightHub start one.state × IsPrefix (events_of one.state) (events_of next.state) × IsPrefix one.state.shown.chain next.state.shown.chain × AreRightSights start next later

-- ---- the events of a history

-- the event of this number, the first of which is 1
pub record IsNth (all : List Authored) (number : ℕ) (one : Authored) : Type 0 where
  pub before : List Authored
  pub later : List Authored
  pub whole : all ≡ before ++ one ∷ later
  pub counted : number ≡ length before + 1

-- each of these events came through one of so many seats
abbrev pub AreOfSeats : ℕ → List Authored → Type 0
AreOfSeats seats [] = Unit {0}
AreOfSeats seats (a ∷ more) = (a.by < seats) × AreOfSeats seats more

-- ---- the laws

-- a history that begins with a hub over a new desk
abbrev pub IsOpened : Network → List (Sight DeskAndChain) → Type 0
IsOpened start [] = ⊥
IsOpened start (first ∷ later) = IsOpening start first.state

-- a history of a hub over a new desk: at each sight the hub is right, what is shown only grows, and the accepted events are those of the seats, in their order
pub record IsExplained (start : Network) (first : Sight DeskAndChain) (later : List (Sight DeskAndChain)) : Type 0 where
  pub sights : AreRightSights start first later
  pub events : events_of (last_sight first later).state ≡ events_in (authored first later)

-- the event of a post that is taken is its seat's, and the last one so far
pub record IsTaken (old : SeatValue DeskAndChain) (call : List Event) (found left : DeskAndChain) (new : SeatValue DeskAndChain) : Type 0 where
  pub all : events_of left ≡ events_of found ++ call
  pub own : own_events old.me new.saw ≡ own_events old.me old.saw ++ call

-- the hub was right at the last of these sights, and what it showed and had accepted then begins what it shows and has accepted at the end
pub record IsSeen (start : Network) (saw log : List (Sight DeskAndChain)) : Type 0 where
  pub right : IsRightHub start (left_at saw)
  pub chain : IsPrefix (left_at saw).shown.chain (left_at log).shown.chain
  pub events : IsPrefix (authored_in saw) (authored_in log)

-- the end of a history of so many seats: each published version is the one of its number, what was shown at the last sight begins what is shown, the
-- network is the one after all events, and each event came through one of the seats
pub record IsEnded (start : Network) (seats : ℕ) (log : List (Sight DeskAndChain)) (state : DeskAndChain) : Type 0 where
  pub right : AreRight (new_desk start) (events_in (authored_in log)) None state.shown.chain
  pub chain : IsPrefix (left_at log).shown.chain state.shown.chain
  pub network : net_now state.desk ≡ replay start (events_in (authored_in log))
  pub authors : AreOfSeats seats (authored_in log)
