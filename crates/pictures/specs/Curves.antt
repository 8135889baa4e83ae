-- The curves of the sets in an SVG picture (own): of each set the first of a list of curves that no point but its ends is near.
use Rattle.std.specs.Prelude.{ℕ, ◌+◌, ◌-◌, ◌*◌, ◌/◌, ◌%◌, ◌==◌, ◌&&◌, ◌||◌, nat_lt, min, max, not, Bool, List, ◌++◌, Option, find, length, unwrap_or, if◌then◌else◌, codes}
use Rattle.std.specs.List.{list_all, range_with_len}
use Rattle.std.specs.Fmt.{decimal}
use Rattle.pictures.specs.declared.curves.Curve.{Curve}
use Rattle.pictures.specs.declared.drawn.DrawnSet.{DrawnSet}
use Rattle.pictures.specs.declared.frame.Canvas.{Canvas}
use Rattle.pictures.specs.declared.places.Place.{Place}
use Rattle.pictures.specs.declared.places.Spot.{Spot}
use Rattle.pictures.specs.Layout.{spot_at}

-- a spot in a path: `X Y`
abbrev pub spot_text : Spot → List ℕ
spot_text spot = decimal spot.x ++ (codes " " ++ decimal spot.y)

-- ---- what is tried

-- the steps of a curve that are looked at, the curves that are tried for a set, and the spots that are tried for its label, all by their numbers
pub record TriesValue : Type 0 where
  pub steps : List ℕ
  pub curves : List ℕ
  pub spots : List ℕ

-- as many as that, but none in a picture of more than 100 points
abbrev pub unless_many : List Place → ℕ → ℕ
unless_many places n = if nat_lt 100 (length places) then 0 else n

-- 128 steps, 1,305 curves and 99 spots; in a picture of more than 100 points no curve and no spot but the first of all
abbrev pub tries_for : List Place → TriesValue
tries_for places = record {
  steps = range_with_len 0 128;
  curves = range_with_len 0 (unless_many places 1305);
  spots = range_with_len 0 (unless_many places 99);
}

-- ---- a curve

-- k of 128 steps from one number to another, k being below 128
abbrev pub along : ℕ → ℕ → ℕ → ℕ
along k from to = ((128 - k % 128) * from + (k % 128) * to) / 128

-- the same of spots
unfoldable pub between : ℕ → Spot → Spot → Spot
between k from to = record { x = along k from.x to.x; y = along k from.y to.y }

-- where a cubic curve is after k of 128 steps, by its control points (de Casteljau)
unfoldable pub spot_on : Curve → ℕ → Spot
spot_on c k =
    between k (between k (between k c.from c.leaving) (between k c.leaving c.arriving)) (between k (between k c.leaving c.arriving) (between k c.arriving c.to))

-- a third of the way from one spot to another
abbrev pub third_of : Spot → Spot → Spot
third_of from to = record { x = (2 * from.x + to.x) / 3; y = (2 * from.y + to.y) / 3 }

-- a number that stays (0), or goes back (1) or on (2) by so much, within two limits
abbrev pub moved_number : ℕ → ℕ → ℕ → ℕ → ℕ → ℕ
moved_number way by least most n = if way == 1 then max (n - by) least else (if way == 2 then min (n + by) most else n)

-- a spot that stays, or moves by so much to the left or right, and up or down, in one of nine ways; it stays on the canvas, and below the legend
unfoldable pub moved : Canvas → ℕ → ℕ → Spot → Spot
moved canvas way by s = record { x = moved_number (way % 3) by 0 canvas.width s.x; y = moved_number (way / 3) by 90 canvas.height s.y }

-- a control point beside one end of a curve: a third of the way to the other end (0), or straight above or below it, two thirds of the way to the height of the other end (1), or the whole way (2)
abbrev pub handle : ℕ → Spot → Spot → Spot
handle how from to = if how == 0 then third_of from to else (if how == 1 then record { x = from.x; y = (third_of to from).y } else record { x = from.x; y = to.y })

-- the first nine curves between two spots, the very first of which is straight: others leave or arrive upright
unfoldable pub upright : Spot → Spot → ℕ → Curve
upright from to k = record { from = from; leaving = handle (k % 3) from to; arriving = handle (k / 3) to from; to = to }

-- how far apart two numbers are
abbrev pub gap : ℕ → ℕ → ℕ
gap a b = (a - b) + (b - a)

-- by how much a curve is bent the first time: a 24th of its length to the side and up or down, and 20 pixels at least
abbrev pub unit_of : Spot → Spot → ℕ
unit_of from to = max ((gap from.x to.x + gap from.y to.y) / 24) 20

-- the other curves: the control points of the straight one are moved, each in one of nine ways, by that much, or if no such curve serves by twice as much, and so on
unfoldable pub bent : Canvas → Spot → Spot → ℕ → Curve
bent canvas from to k = record {
  from = from;
  leaving = moved canvas ((k / 9) % 9) (unit_of from to * (k / 81 + 1)) (third_of from to);
  arriving = moved canvas (k % 9) (unit_of from to * (k / 81 + 1)) (third_of to from);
  to = to;
}

-- the k-th curve
abbrev pub curve_between : Canvas → Spot → Spot → ℕ → Curve
curve_between canvas from to k = if nat_lt k 9 then upright from to k else bent canvas from to (k - 9)

-- ---- a clear curve

-- a spot is within the shape of a point, or six pixels from it
abbrev pub is_near : Spot → Spot → Bool
is_near point s = nat_lt (gap point.x s.x) 36 && nat_lt (gap point.y s.y) 19

-- a spot of a set isn't near a point, unless that is an end of the set
abbrev pub is_passed : DrawnSet → Spot → Place → Bool
is_passed set s place = place.code == set.a || (place.code == set.b || not (is_near place.spot s))

-- a spot of a set isn't near any point but its ends
unfoldable pub is_free : List Place → DrawnSet → Spot → Bool
is_free places set s = list_all (is_passed set s) places

-- a curve of a set isn't, at any of its steps
abbrev pub is_clear : TriesValue → List Place → DrawnSet → Curve → Bool
is_clear tries places set c = list_all (λ k. is_free places set (spot_on c k)) tries.steps

-- the k-th curve of a set, from its first end to its second
abbrev pub set_curve : Canvas → List Place → DrawnSet → ℕ → Curve
set_curve canvas places set k = curve_between canvas (spot_at places set.a) (spot_at places set.b) k

-- the first curve that is clear, if one is
abbrev pub first_clear : TriesValue → Canvas → List Place → DrawnSet → Option ℕ
first_clear tries canvas places set = find (λ k. is_clear tries places set (set_curve canvas places set k)) tries.curves

-- the curve of a set: the first one that is clear, else the first of all
unfoldable pub curve_of : TriesValue → Canvas → List Place → DrawnSet → Curve
curve_of tries canvas places set = set_curve canvas places set (unwrap_or (first_clear tries canvas places set) 0)
