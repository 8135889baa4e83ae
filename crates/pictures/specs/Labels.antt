-- The labels of the sets in an SVG picture (own): each on the first of a list of spots along its curve where it covers no point and no label before it.
use Rattle.std.specs.Prelude.{ℕ, ◌+◌, ◌-◌, ◌*◌, ◌/◌, ◌%◌, ◌==◌, ◌&&◌, nat_lt, min, not, Bool, List, [], ◌∷◌, ◌++◌, Option, find, length, unwrap_or, if◌then◌else◌}
use Rattle.std.specs.List.{fold, list_all}
use Rattle.pictures.specs.declared.curves.Curve.{Curve}
use Rattle.pictures.specs.declared.drawn.DrawnSet.{DrawnSet}
use Rattle.pictures.specs.declared.frame.Canvas.{Canvas}
use Rattle.pictures.specs.declared.labels.Area.{Area}
use Rattle.pictures.specs.declared.labels.Label.{Label}
use Rattle.pictures.specs.declared.labels.PlacedSet.{PlacedSet}
use Rattle.pictures.specs.declared.places.Place.{Place}
use Rattle.pictures.specs.declared.places.Spot.{Spot}
use Rattle.pictures.specs.Curves.{TriesValue, curve_of, moved, spot_on, tries_for}
use Rattle.pictures.specs.Shown.{label_text}

-- ---- areas

-- two areas overlap
abbrev pub overlap : Area → Area → Bool
overlap one other = nat_lt one.left other.right && nat_lt other.left one.right && nat_lt one.top other.bottom && nat_lt other.top one.bottom

-- an area around a spot
abbrev pub area_at : Spot → ℕ → ℕ → Area
area_at s wide high = record { left = s.x - wide; top = s.y - high; right = s.x + wide; bottom = s.y + high }

-- the area of a point's shape
abbrev pub point_area : Place → Area
point_area place = area_at place.spot 31 14

-- the area of a label
abbrev pub label_area : Label → Area
label_area label = area_at label.spot label.half 6

-- half the width of a text of so many letters: 0.6 em each, and three pixels; 100 letters at most are counted
abbrev pub half_width : ℕ → ℕ
half_width letters = 27 * min letters 100 / 10 + 3

-- ---- the spot of a label

-- the step of a curve that is the i-th in turn: from its middle to a quarter from each end, by turns
abbrev pub step_in_turn : ℕ → ℕ
step_in_turn i = if i % 2 == 0 then 64 + i else 64 - (i + 1)

-- the i-th spot for a label: 33 on the curve, 33 by 22 pixels above it, and 33 below it
abbrev pub label_spot : Canvas → Curve → ℕ → Spot
label_spot canvas c i = moved canvas (3 * (i / 33)) 22 (spot_on c (step_in_turn (i % 33)))

-- an area is within the canvas
abbrev pub is_on : Canvas → Area → Bool
is_on canvas area = nat_lt 0 area.left && nat_lt area.right canvas.width && nat_lt area.bottom canvas.height

-- an area covers no point
abbrev pub covers_none : List Place → Area → Bool
covers_none places area = list_all (λ p. not (overlap area (point_area p))) places

-- an area covers no label of these sets
abbrev pub covers_no_label : List PlacedSet → Area → Bool
covers_no_label done area = list_all (λ (d : PlacedSet). not (overlap area (label_area d.label))) done

-- a label may stand there
unfoldable pub is_open : Canvas → List Place → List PlacedSet → Label → Bool
is_open canvas places done label = is_on canvas (label_area label) && covers_none places (label_area label) && covers_no_label done (label_area label)

-- a label of that width on the i-th spot
abbrev pub tried_label : Canvas → Curve → ℕ → ℕ → Label
tried_label canvas c half i = record { spot = label_spot canvas c i; half = half }

-- the first spot where it may stand, if there is one
abbrev pub first_open : TriesValue → Canvas → List Place → List PlacedSet → Curve → ℕ → Option ℕ
first_open tries canvas places done c half = find (λ i. is_open canvas places done (tried_label canvas c half i)) tries.spots

-- the label of a curve after those of other sets: on the first spot where it may stand, else on the first of all
unfoldable pub label_of : TriesValue → Canvas → List Place → List PlacedSet → Curve → ℕ → Label
label_of tries canvas places done c half = tried_label canvas c half (unwrap_or (first_open tries canvas places done c half) 0)

-- ---- the sets with their curves and labels

-- a set at its place, after others
unfoldable pub placed_set : TriesValue → Canvas → List Place → List PlacedSet → DrawnSet → PlacedSet
placed_set tries canvas places done set =
    let c = curve_of tries canvas places set in
    record { set = set; curve = c; label = label_of tries canvas places done c (half_width (length (label_text set))) }

-- the sets at their places, in their order
abbrev pub placed_by : TriesValue → Canvas → List Place → List DrawnSet → List PlacedSet
placed_by tries canvas places sets = fold (λ done set. done ++ (placed_set tries canvas places done set ∷ [])) [] sets

-- the sets at their places on the canvas of a picture
abbrev pub placed_sets : Canvas → List Place → List DrawnSet → List PlacedSet
placed_sets canvas places sets = placed_by (tries_for places) canvas places sets
