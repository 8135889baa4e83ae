-- The accepted events of a hub, and through which seats they came (own).
use Rattle.std.specs.Prelude.{◌-◌, ◌==◌, ◌^◌, ℕ, Bool, true, false, List, [], ◌∷◌, ◌++◌, Result, Ok, Err, length, map, drop, min, if◌then◌else◌}
use Rattle.std.specs.List.{range_with_len}
use Rattle.net_data.specs.declared.events.Event.{Event}
use Rattle.net_versions.specs.Versions.{VersionValue}
use Rattle.work_units.specs.declared.replies.Posted.{Posted}
use Rattle.work_units.specs.declared.replies.Posted.TheVariants.{Again, Taken}
use Rattle.work_units.specs.declared.replies.Refusal.{Refusal}
use Rattle.seats.specs.declared.rule.Sight.{Sight}
use Rattle.versions.specs.declared.state.DeskAndChain.{DeskAndChain}

-- ---- the one list of accepted events

-- the events of versions, one version after the other
abbrev pub batches : List VersionValue → List Event
batches [] = []
batches (v ∷ later) = v.batch ++ batches later

-- all events that a desk has accepted: those of its published versions, and then those that wait to be published
abbrev pub events_of : DeskAndChain → List Event
events_of s = batches s.shown.chain ++ s.desk.pending

-- ---- whose events they are

-- an accepted event, and the seat through which it came
pub record Authored : Type 0 where
  pub by : ℕ
  pub event : Event

-- these events came through this seat
abbrev pub all_by : ℕ → List Event → List Authored
all_by me [] = []
all_by me (e ∷ es) = record { by = me; event = e } ∷ all_by me es

-- the events that were accepted between two sights
abbrev pub taken_between : DeskAndChain → DeskAndChain → List Event
taken_between one next = drop (length (events_of one)) (events_of next)

-- all events that were accepted after a sight, each with the seat through which it came
abbrev pub authored : Sight DeskAndChain → List (Sight DeskAndChain) → List Authored
authored one [] = []
authored one (next ∷ later) = all_by next.by (taken_between one.state next.state) ++ authored next later

-- all accepted events of a history, in their order
abbrev pub authored_in : List (Sight DeskAndChain) → List Authored
authored_in [] = []
authored_in (first ∷ later) = authored first later

-- the events alone
abbrev pub events_in : List Authored → List Event
events_in [] = []
events_in (a ∷ more) = a.event ∷ events_in more

-- the events of one seat alone
abbrev pub events_by : ℕ → List Authored → List Event
events_by me [] = []
events_by me (a ∷ more) = (if a.by == me then a.event ∷ [] else []) ++ events_by me more

-- the events of a history that came through a seat
abbrev pub own_events : ℕ → List (Sight DeskAndChain) → List Event
own_events me log = events_by me (authored_in log)

-- a post is accepted, and neither answered again nor refused
abbrev pub was_taken : Result Posted Refusal → Bool
was_taken (Ok (Taken number)) = true
was_taken (Ok (Again number)) = false
was_taken (Err refusal) = false

-- how many of these events came through a seat, or 2^64 - 1 if they are more
abbrev pub count_of : ℕ → List Authored → ℕ
count_of me all = min (length (events_by me all)) (2 ^ 64 - 1)

-- the same of each of so many seats
abbrev pub counts_of : ℕ → List Authored → List ℕ
counts_of seats all = map (λ me. count_of me all) (range_with_len 0 seats)
