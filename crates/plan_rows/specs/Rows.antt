-- What is asked of a row of a plan.
use Rattle.std.specs.Prelude.{ℕ, Bool, false, not, ◌&&◌, ◌||◌, ◌==◌, nat_lt, nat_le, List, length}
use Rattle.std.specs.List.{list_all, list_any}
use Rattle.std.specs.Option.{option_map_or}
use Rattle.net_items.specs.declared.items.Point.{Point}
use Rattle.net_items.specs.declared.items.LinkSet.{LinkSet}
use Rattle.net_items.specs.declared.lists.Row.{Row}
use Rattle.net_items.specs.Lookups.{is_stp, mate_of, adjacent}
use Rattle.net_sets.specs.Joints.{AroundValue}
use Rattle.net_sets.specs.Sets.{is_nil}

-- each via passes
abbrev pub all_vias : (ℕ → Bool) → Row → Bool
all_vias p r = list_all (λ vias. list_all p vias) r.classes

-- z is the mate of y
abbrev pub is_mate : List Point → ℕ → ℕ → Bool
is_mate points y z = option_map_or (λ m. m == z) (mate_of points y) false

-- the point has a row of lower rank
abbrev pub has_lower_row : List Row → ℕ → ℕ → Bool
has_lower_row rows z rank = list_any (λ (other : Row). other.point == z && nat_lt other.rank rank) rows

-- the point has a row of this rank
abbrev pub has_equal_row : List Row → ℕ → ℕ → Bool
has_equal_row rows z rank = list_any (λ (other : Row). other.point == z && other.rank == rank) rows

-- a via leads to the destination, or to a transfer point with a row of lower rank
abbrev pub is_lower : List Point → ℕ → List Row → Row → ℕ → Bool
is_lower points dest rows r z = z == dest || (is_stp points z && has_lower_row rows z r.rank)

-- the row's point is a transfer point whose mate is joined to it, is not the destination and has a row of the same rank
abbrev pub has_mate_row : List Point → List LinkSet → ℕ → List Row → Row → Bool
has_mate_row points sets dest rows r = is_stp points r.point && option_map_or (λ m. adjacent sets r.point m && (not (m == dest) && has_equal_row rows m r.rank)) (mate_of points r.point) false

-- a via that is not the point's mate, unless it is the destination
abbrev pub is_free : List Point → ℕ → ℕ → ℕ → Bool
is_free points dest y z = z == dest || not (is_mate points y z)

-- nothing is wrong with a via, but that it may stand twice; around the row's point are those sets
abbrev pub is_right_via : List Point → AroundValue → ℕ → List Row → Row → ℕ → Bool
is_right_via points around dest rows r z = adjacent around.sets around.point z && (is_lower points dest rows r z && is_free points dest r.point z)

-- a class of one or two vias
abbrev pub is_small_class : List ℕ → Bool
is_small_class vias = not (is_nil vias) && nat_le (length vias) 2

-- the limits of a row
abbrev pub is_small_row : Row → Bool
is_small_row r = (not (r.rank == 0) && nat_le r.rank 255) && (nat_le (length r.classes) 4 && list_all is_small_class r.classes)
