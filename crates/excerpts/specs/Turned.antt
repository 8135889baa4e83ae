-- Between which points an available set is in one of two networks alone (own, after Q.704 clause 3.2).
use Rattle.std.specs.Prelude.{◌≡◌, ◌≢◌, ℕ, ◌==◌, ◌&&◌, ◌||◌, Bool, true, false, List, Option, Some, None}
use Rattle.std.specs.List.{list_any, AllByRecursion}
use Rattle.std.specs.Option.{option_map_or}
use Rattle.net_items.specs.declared.items.LinkSet.{LinkSet}
use Rattle.net_items.specs.declared.items.Point.{Point}
use Rattle.net_items.specs.Lookups.{is_stp, mate_of, set_at}
use Rattle.net_data.specs.declared.events.Event.{Event}
use Rattle.net_data.specs.declared.events.Event.TheVariants as on
use Rattle.net_data.specs.Kinds.{is_of_links, is_of_sets}
use Rattle.net_data.specs.Network.{Network}
use Rattle.link_sets.specs.Availability.{connected, set_available}
use Rattle.excerpts.specs.declared.turned.Ends.{Ends}
use Rattle.excerpts.specs.declared.turned.Pair.{Pair}

-- the list has the two points, in this order
abbrev pub has_ends : List Ends → ℕ → ℕ → Bool
has_ends list y z = list_any (λ (e : Ends). e.point == y && e.other == z) list

-- the same of pairs of points
abbrev pub has_pair : List Pair → ℕ → ℕ → Bool
has_pair list y z = list_any (λ (p : Pair). p.point == y && p.other == z) list

-- an available set joins two points in both networks or in neither, unless the list has them
abbrev pub AreTurned : List LinkSet → List LinkSet → List Ends → Type 0
AreTurned before after list = (y z : ℕ) → has_ends list y z ≡ false → connected after y z ≡ connected before y z

-- the same of pairs of points
abbrev pub ArePairsTurned : List LinkSet → List LinkSet → List Pair → Type 0
ArePairsTurned before after list = (y z : ℕ) → has_pair list y z ≡ false → connected after y z ≡ connected before y z

-- the set whose links an event is about
abbrev pub set_linked : Event → Option ℕ
set_linked (on.Link id slc change) = Some id
set_linked (on.AddLink id slc) = Some id
set_linked (on.RemoveLink id slc) = Some id
set_linked _ = None

-- some event is about links of the set of that id
abbrev pub is_named : List Event → ℕ → Bool
is_named events id = list_any (λ event. option_map_or (λ k. k == id) (set_linked event) false) events

-- the list has the ends of the set of an id, in both orders, if it is available in one of two lists alone
abbrev pub HasTold : List LinkSet → List LinkSet → List Pair → ℕ → Type 0
HasTold before after list id = (s t : LinkSet) → set_at before id ≡ Some s → set_at after id ≡ Some t → set_available s ≢ set_available t
    → (has_pair list s.a s.b ≡ true) × (has_pair list s.b s.a ≡ true)

-- two points are mates
abbrev pub are_mates : List Point → ℕ → ℕ → Bool
are_mates points y z = option_map_or (λ m. m == z) (mate_of points y) false

-- the ends that two points are, with what is true of them whatever the destination
abbrev pub told_of : List Point → Pair → Ends
told_of points p = record { point = p.point; other = p.other; transfers = is_stp points p.other; mates = are_mates points p.point p.other }

-- what the ends tell of their points is true
pub record IsTold (points : List Point) (ends : Ends) : Type 0 where
  pub transfers : ends.transfers ≡ is_stp points ends.other
  pub mates : ends.mates ≡ are_mates points ends.point ends.other

-- an event that leaves points, plans and the transfer-restricted option
abbrev pub keeps_plans : Event → Bool
keeps_plans event = is_of_links event || is_of_sets event

-- a network is another one in which only links and sets changed, and the list has at least the ends of each set that became available or is so no longer
pub record HasTurned (before after : Network) (list : List Ends) : Type 0 where
  pub points : after.points ≡ before.points
  pub plans : after.plans ≡ before.plans
  pub tfr : after.tfr ≡ before.tfr
  pub turned : AreTurned before.sets after.sets list
  pub told : AllByRecursion (IsTold after.points) list
