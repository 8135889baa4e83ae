-- What an event touches: the destinations whose tables may read something else after it (own).
use Rattle.std.specs.Prelude.{◌≡◌, ℕ, ◌<◌, ◌||◌, ◌==◌, Bool, true, false, List, Option, Some, None, is_some, filter, map}
use Rattle.std.specs.List.{range_with_len}
use Rattle.std.specs.Option.{option_map_or}
use Rattle.net_items.specs.declared.items.Plan.{Plan}
use Rattle.net_items.specs.Lookups.{set_at, plan_at}
use Rattle.net_data.specs.declared.events.Event.{Event}
use Rattle.net_data.specs.declared.events.Event.TheVariants as on
use Rattle.net_data.specs.Network.{Network}
use Rattle.net_data.specs.Edits.{changed}
use Rattle.excerpts.specs.Excerpt.{is_read_by}

-- the destination has a plan
abbrev pub is_planned : Network → ℕ → Bool
is_planned net x = is_some (plan_at net.plans x)

-- the table of a destination reads the set of that id
abbrev pub reads_set : Network → ℕ → ℕ → Bool
reads_set net x id = option_map_or (λ plan. option_map_or (is_read_by net.points plan) (set_at net.sets id) false) (plan_at net.plans x) false

-- the set that an event is on
abbrev pub event_set : Event → Option ℕ
event_set (on.Link id slc change) = Some id
event_set (on.AddSet id a b slcs) = Some id
event_set (on.RemoveSet id) = Some id
event_set (on.AddLink id slc) = Some id
event_set (on.RemoveLink id slc) = Some id
event_set _ = None

-- the table of the destination reads the set that an event is on, before or after it
abbrev pub reads_changed : Network → Event → ℕ → Bool
reads_changed net event x = option_map_or (λ id. reads_set net x id || reads_set (changed net event) x id) (event_set event) false

-- an event touches a destination: a plan its own, the option all that are planned, and an event on a set those that read the set before or after it
abbrev pub touches : Network → Event → ℕ → Bool
touches net (on.SetPlan plan) x = plan.dest == x
touches net (on.DropPlan dest) x = dest == x
touches net (on.SetTfr tfr) x = is_planned net x
touches net (on.Link id slc change) x = reads_changed net (on.Link id slc change) x
touches net (on.AddSet id a b slcs) x = reads_changed net (on.AddSet id a b slcs) x
touches net (on.RemoveSet id) x = reads_changed net (on.RemoveSet id) x
touches net (on.AddLink id slc) x = reads_changed net (on.AddLink id slc) x
touches net (on.RemoveLink id slc) x = reads_changed net (on.RemoveLink id slc) x
touches net (on.AddPoint c kind) x = false
touches net (on.RemovePoint c) x = false
touches net (on.Pair p q) x = false
touches net (on.Unpair p) x = false

-- the destinations that an event touches, in rising code
abbrev pub touched : Network → Event → List ℕ
touched net event = filter (touches net event) (range_with_len 0 16384)

-- which destinations are planned, which sets the table of each reads, and how many more plans go in without memory
pub record Reads : Type 0 where
  pub planned : List ℕ
  pub reads : ℕ → ℕ → Bool
  pub room : ℕ

-- an event that may add a plan
abbrev pub sets_plan : Event → Bool
sets_plan (on.SetPlan plan) = true
sets_plan _ = false

-- the index tells what the tables of a network read; set ids are below 4,096
pub record IsTouchIndex (net : Network) (index : Reads) : Type 0 where
  pub planned : index.planned ≡ map (λ (plan : Plan). plan.dest) net.plans
  pub reads : (x id : ℕ) → id < 4096 → index.reads x id ≡ reads_set net x id
