-- What stands in the lists of a network, found by its code, its id or its ends.
use Rattle.std.specs.Prelude.{ℕ, Bool, true, false, ◌&&◌, ◌||◌, ◌==◌, Option, is_some, List, [], ◌∷◌, ◌++◌, find}
use Rattle.std.specs.List.{list_any}
use Rattle.std.specs.Option.{option_map_or, option_and_then}
use Rattle.net_items.specs.declared.items.Kind.{Kind}
use Rattle.net_items.specs.declared.items.Kind.TheVariants.{Sep, Stp}
use Rattle.net_items.specs.declared.items.Point.{Point}
use Rattle.net_items.specs.declared.items.LinkSet.{LinkSet}
use Rattle.net_items.specs.declared.items.Plan.{Plan}
use Rattle.net_items.specs.declared.lists.Row.{Row}
use Rattle.net_items.specs.Keyed.{at_key}

-- the point of that code
abbrev pub point_at : List Point → ℕ → Option Point
point_at points c = at_key (λ (p : Point). p.code) c points

abbrev pub has_point : List Point → ℕ → Bool
has_point points c = is_some (point_at points c)

abbrev pub kind_is_stp : Kind → Bool
kind_is_stp Sep = false
kind_is_stp Stp = true

-- whether it is a transfer point
abbrev pub is_stp : List Point → ℕ → Bool
is_stp points c = option_map_or (λ (p : Point). kind_is_stp p.kind) (point_at points c) false

-- its mate
abbrev pub mate_of : List Point → ℕ → Option ℕ
mate_of points c = option_and_then (λ (p : Point). p.mate) (point_at points c)

abbrev pub set_at : List LinkSet → ℕ → Option LinkSet
set_at sets id = at_key (λ (s : LinkSet). s.id) id sets

-- whether the set is between y and z
abbrev pub joins : ℕ → ℕ → LinkSet → Bool
joins y z s = (s.a == y && s.b == z) || (s.a == z && s.b == y)

abbrev pub set_between : List LinkSet → ℕ → ℕ → Option LinkSet
set_between sets y z = find (joins y z) sets

abbrev pub adjacent : List LinkSet → ℕ → ℕ → Bool
adjacent sets y z = is_some (set_between sets y z)

abbrev pub plan_at : List Plan → ℕ → Option Plan
plan_at plans x = at_key (λ (p : Plan). p.dest) x plans

abbrev pub row_at : List Row → ℕ → Option Row
row_at rows y = at_key (λ (r : Row). r.point) y rows

-- the point is a via of the row
abbrev pub is_via : Row → ℕ → Bool
is_via row z = list_any (λ vias. list_any (λ via. via == z) vias) row.classes

-- all vias of a row, class by class
abbrev pub concat_vias : List (List ℕ) → List ℕ
concat_vias [] = []
concat_vias (vias ∷ classes) = vias ++ concat_vias classes

abbrev pub vias_of : Row → List ℕ
vias_of r = concat_vias r.classes
