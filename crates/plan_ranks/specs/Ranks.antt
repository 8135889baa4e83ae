-- The ranks that the rows of a plan may have (own): the crate plan_rows says what a valid plan asks of them.
use Rattle.std.specs.Prelude.{◌≡◌, ℕ, ◌+◌, ◌<◌, ◌≤◌, ◌==◌, if◌then◌else◌, List, [], ◌∷◌, ◌++◌, length, slice_index, Option}
use Rattle.std.specs.List.{All, flat_map, position}
use Rattle.std.specs.Option.{option_map_or}
use Rattle.net_items.specs.declared.items.Point.{Point}
use Rattle.net_items.specs.declared.lists.Row.{Row}
use Rattle.net_items.specs.Lookups.{mate_of}
use Rattle.plan_ranks.specs.declared.needs.Need.{Need}

-- the place of the first row of a point
abbrev pub place_of : List Row → ℕ → Option ℕ
place_of rows z = position (λ (r : Row). r.point == z) rows

-- the row at one place is so much higher than that at the other
abbrev pub need : ℕ → ℕ → ℕ → Need
need upper lower by = record { upper = upper; lower = lower; by = by }

-- the row at place i is higher than the row of its via z, if that isn't the destination and has a row
abbrev pub via_needs : List Row → ℕ → ℕ → ℕ → List Need
via_needs rows dest i z = if z == dest then [] else option_map_or (λ j. need i j 1 ∷ []) (place_of rows z) []

-- the row at place i is as high as the row of its mate m, if that has a row
abbrev pub mate_needs : List Row → ℕ → ℕ → List Need
mate_needs rows i m = option_map_or (λ j. need i j 0 ∷ need j i 0 ∷ []) (place_of rows m) []

-- what the row at place i needs: for its vias, and for its mate where it has the mate flag
abbrev pub row_needs : List Point → ℕ → List Row → ℕ → Row → List Need
row_needs points dest rows i r =
    flat_map (λ vias. flat_map (via_needs rows dest i) vias) r.classes
    ++ (if r.mate then option_map_or (mate_needs rows i) (mate_of points r.point) [] else [])

-- what those rows need, from place i on
abbrev pub needs_from : List Point → ℕ → List Row → ℕ → List Row → List Need
needs_from points dest rows i [] = []
needs_from points dest rows i (r ∷ rs) = row_needs points dest rows i r ++ needs_from points dest rows (i + 1) rs

-- what the rows of a plan need
abbrev pub needs_of : List Point → ℕ → List Row → List Need
needs_of points dest rows = needs_from points dest rows 0 rows

-- these ranks meet a need
abbrev pub IsMet : List ℕ → Need → Type 0
IsMet ranks n = slice_index ranks n.lower + n.by ≤ slice_index ranks n.upper

-- ranks of the rows of a plan, one each, from 1 to 255, that meet all needs
pub record IsRanked (points : List Point) (dest : ℕ) (rows : List Row) (ranks : List ℕ) : Type 0 where
  pub each : length ranks ≡ length rows
  pub from_one : All (λ rank. 0 < rank) ranks
  pub to_255 : All (λ rank. rank ≤ 255) ranks
  pub met : All (IsMet ranks) (needs_of points dest rows)

-- each of these is at most that of the others at its place
abbrev pub IsBelow : List ℕ → List ℕ → Type 0
IsBelow ranks others = (k : ℕ) → slice_index ranks k ≤ slice_index others k

-- the least ranks: such ranks, and below all others
pub record IsLeast (points : List Point) (dest : ℕ) (rows : List Row) (ranks : List ℕ) : Type 0 where
  pub ranked : IsRanked points dest rows ranks
  pub least : (others : List ℕ) → IsRanked points dest rows others → IsBelow ranks others

-- there are no ranks
abbrev pub HasNoRanks : List Point → ℕ → List Row → Type 0
HasNoRanks points dest rows = (ranks : List ℕ) → ¬ (IsRanked points dest rows ranks)

-- the rows with those ranks, one each from the first on
abbrev pub with_ranks : List Row → List ℕ → List Row
with_ranks [] ranks = []
with_ranks (r ∷ rs) [] = r ∷ rs
with_ranks (r ∷ rs) (rank ∷ ranks) = record r { rank = rank } ∷ with_ranks rs ranks
