-- The index of the pairs of points that sets join.
use Rattle.std.specs.Prelude.{◌≡◌, ◌<◌, ◌≤◌, ℕ, Bool, false, Option, Some, None, List, [], ◌∷◌, length, drop, slice_get, slice_index}
use Rattle.std.specs.Option.{option_map_or, IsSomeAnd, MatchOption}
use Rattle.std.specs.List.{AllByRecursion}
use Rattle.std.specs.List.Sorted.{IsPartitionPoint}
use Rattle.std.specs.BTreeMap.{BTreeMap}
use Rattle.net_items.specs.declared.items.LinkSet.{LinkSet}
use Rattle.net_items.specs.Keyed.{IsRising, at_key}
use Rattle.net_items.specs.Lookups.{set_between}
use Rattle.net_sets.specs.Joints.{joint_of}
use Rattle.link_sets.specs.Availability.{set_available}
use Rattle.excerpts.specs.declared.index.Joint.{Joint}

-- what the index holds of the set in a place, from a point to another
abbrev pub joint_from : ℕ → ℕ → ℕ → Joint
joint_from position y z = record { pair = joint_of y z; position = position }

-- each joint stands under the number of its pair
abbrev pub AreByPair : BTreeMap ℕ Joint → Type 0
AreByPair joints = AllByRecursion (λ (e : ℕ × Joint). e.0 ≡ e.1.pair) joints.entries

-- a joint leads to a set
abbrev pub IsJointOf : List LinkSet → LinkSet → Joint → Type 0
IsJointOf sets set j = slice_get sets j.position ≡ Some set

-- what is held of the set between two points: a joint of it, or none if no set is
abbrev pub IsHeld : List LinkSet → Option LinkSet → Option Joint → Type 0
IsHeld sets between held = MatchOption between (held ≡ None) (λ set. IsSomeAnd held (IsJointOf sets set))

-- the pairs rise, and for each pair of codes what is held is of the first set from that place on that is between them
pub record IsIndexFrom (position : ℕ) (joints : List Joint) (sets : List LinkSet) : Type 0 where
  pub rise : IsRising (λ (j : Joint). j.pair) joints
  pub tells : (y z : ℕ) → y < 16384 → z < 16384 → IsHeld sets (set_between (drop position sets) y z) (at_key (λ (j : Joint). j.pair) (joint_of y z) joints)

-- the index of all sets
abbrev pub IsJointIndex : List Joint → List LinkSet → Type 0
IsJointIndex joints sets = IsIndexFrom 0 joints sets

-- two sets join the same points, in the same order
pub record HasSameEnds (set other : LinkSet) : Type 0 where
  pub first : set.a ≡ other.a
  pub second : set.b ≡ other.b

-- the sets of two lists join the same points, place by place
abbrev pub AreSameEnds : List LinkSet → List LinkSet → Type 0
AreSameEnds [] [] = Unit {0}
AreSameEnds [] (other ∷ others) = ⊥
AreSameEnds (set ∷ sets) [] = ⊥
AreSameEnds (set ∷ sets) (other ∷ others) = HasSameEnds set other × AreSameEnds sets others

-- a joint leads to a set that is available
abbrev pub leads_up : List LinkSet → Joint → Bool
leads_up sets j = option_map_or set_available (slice_get sets j.position) false

-- the index has the pair, with a set that is available
abbrev pub is_up : List LinkSet → List Joint → ℕ → ℕ → Bool
is_up sets joints y z = option_map_or (leads_up sets) (at_key (λ (j : Joint). j.pair) (joint_of y z) joints) false

-- the joints of smaller pairs stand before that place, and all others from there on
pub record IsFirstJoint (pair : ℕ) (joints : List Joint) (position : ℕ) : Type 0 where
  pub within : position ≤ length joints
  pub parts : IsPartitionPoint (λ (j : Joint). j.pair < pair) (λ (j : Joint). pair ≤ j.pair) joints position

-- where the joints of each point begin, and after the last point if they end
pub record AreFirsts (firsts : List ℕ) (joints : List Joint) : Type 0 where
  pub long : length firsts ≡ 16385
  pub right : (y : ℕ) → y < 16385 → IsFirstJoint (joint_of y 0) joints (slice_index firsts y)
