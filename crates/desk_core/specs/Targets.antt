-- What an open target holds: its network, its tasks, and a place for the routing of each planned destination.
use Rattle.std.specs.Prelude.{◌≡◌, ℕ, ◌==◌, ◌||◌, Bool, true, not, List, Option, Some, None, map}
use Rattle.std.specs.Arc.{arc_value}
use Rattle.std.specs.List.{AllByRecursion, list_any}
use Rattle.net_items.specs.declared.items.Plan.{Plan}
use Rattle.net_data.specs.Network.{Network}
use Rattle.excerpts.specs.Excerpt.{excerpt_at, excerpt_in}
use Rattle.excerpts.specs.Turned.{HasTurned}
use Rattle.transfer_state.specs.Routing.{RoutingSlotValue}
use Rattle.dirty_sets.specs.Touch.{is_planned}
use Rattle.dirty_sets.specs.Waiting.{Task}
use Rattle.net_versions.specs.Versions.{excerpts}
use Rattle.desk_core.specs.declared.targets.Difference.{Difference}

-- an open target with its network
pub record TargetValue : Type 0 where
  pub number : ℕ
  pub network : Network
  pub tasks : List Task

-- the target's network differs from that of a version by sets alone, whose ends are told, if there is something to follow
abbrev pub DiffersBy : Network → Option Difference → Type 0
DiffersBy net None = Unit {0}
DiffersBy net (Some d) = HasTurned (arc_value d.version).network net (arc_value d.turned).items

-- the destination waits or is out
abbrev pub is_task : List Task → ℕ → Bool
is_task tasks x = list_any (λ (t : Task). t.dest == x) tasks

-- the routing of a place has come, or its destination waits or is out
abbrev pub IsFilled : List Task → RoutingSlotValue → Type 0
IsFilled tasks slot = (slot.settled || is_task tasks slot.excerpt.plan.dest) ≡ true

-- there is a place for each planned destination, filled if nothing is waited for, and only planned destinations wait
pub record AreFilled (net : Network) (tasks : List Task) (slots : List RoutingSlotValue) : Type 0 where
  pub all : map (λ (s : RoutingSlotValue). s.excerpt) slots ≡ excerpts net
  pub filled : AllByRecursion (IsFilled tasks) slots
  pub planned : AllByRecursion (λ (t : Task). is_planned net t.dest ≡ true) tasks

-- the place of a planned destination, and whether its routing is there already
abbrev pub IsSlotFor : Network → ℕ → Bool → RoutingSlotValue → Type 0
IsSlotFor net dest settled slot = (excerpt_at net dest ≡ Some slot.excerpt) × (slot.settled ≡ settled)

-- the place of a plan: its routing is there where the destination wasn't touched
abbrev pub routing_slot_of : Network → (ℕ → Bool) → Plan → RoutingSlotValue
routing_slot_of net touched plan = record { excerpt = excerpt_in net plan; settled = not (touched plan.dest) }
