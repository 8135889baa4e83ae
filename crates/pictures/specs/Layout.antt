-- Where the points stand in an SVG picture (own), in pixels from its upper left corner. It is 1,200 pixels wide or more.
-- Mated transfer points stand side by side, in bands of eight pairs. In the middle stand the pairs that no end point belongs to; above it the first half of those that have end points, and below it the others, with the end points on their outer side, fanned out in 24 columns: on one rank if no pair has more than six, else on two, or on more where the columns are full. An end point of an outer rank stands between two of the rank within, so that lines reach it. At the bottom stand the end points that no set joins to a transfer point, in rows of twelve.
use Rattle.std.specs.Prelude.{◌≤◌, ℕ, ◌+◌, ◌-◌, ◌*◌, ◌/◌, ◌%◌, ◌==◌, ◌&&◌, nat_lt, min, max, not, Bool, true, false, List, [], ◌∷◌, Option, Some, None, is_some, if◌then◌else◌, map, find, position, length}
use Rattle.std.specs.List.{count_by, flat_map, fold}
use Rattle.std.specs.Option.{option_map, option_map_or, option_and_then}
use Rattle.net_items.specs.declared.items.LinkSet.{LinkSet}
use Rattle.net_items.specs.declared.items.Point.{Point}
use Rattle.net_items.specs.Lookups.{kind_is_stp, is_stp, mate_of}
use Rattle.net_data.specs.Network.{Network}
use Rattle.link_sets.specs.Neighbours.{other_end_of}
use Rattle.profile.specs.Local.{is_at}
use Rattle.pictures.specs.declared.stands.Stand.{Stand}
use Rattle.pictures.specs.declared.frame.Canvas.{Canvas}
use Rattle.pictures.specs.declared.places.Spot.{Spot}
use Rattle.pictures.specs.declared.places.Place.{Place}

-- ---- what belongs together

-- the lower code of a transfer point and its mate, which stands for both
abbrev pub lower_of_mates : List Point → ℕ → ℕ
lower_of_mates points c = option_map_or (λ m. if nat_lt m c then m else c) (mate_of points c) c

-- a set joins a transfer point to y
abbrev pub reaches_stp : List Point → ℕ → LinkSet → Bool
reaches_stp points y set = option_map_or (is_stp points) (other_end_of y set) false

-- the first transfer point, in the order of the sets, that a set joins to a point
abbrev pub first_stp : Network → ℕ → Option ℕ
first_stp net y = option_and_then (other_end_of y) (find (reaches_stp net.points y) net.sets)

-- the pair that a point belongs to: its own, or that of the first transfer point that an end point is joined to
abbrev pub head_of_pair : Network → Point → Option ℕ
head_of_pair net p = if kind_is_stp p.kind then Some (lower_of_mates net.points p.code) else option_map (lower_of_mates net.points) (first_stp net p.code)

-- a point with its pair
abbrev pub stand_of : Network → Point → Stand
stand_of net p = record { point = p; pair = head_of_pair net p }

-- all points with their pairs, in rising code
abbrev pub stands_of : Network → List Stand
stands_of net = map (stand_of net) net.points

-- the same pair, or none twice
abbrev pub is_same_pair : Option ℕ → Option ℕ → Bool
is_same_pair None other = not (is_some other)
is_same_pair (Some h) other = is_at h other

-- an end point that belongs to this pair, or to none
abbrev pub is_end_of : Option ℕ → Stand → Bool
is_end_of pair s = not (kind_is_stp s.point.kind) && is_same_pair pair s.pair

-- how many end points belong to a pair, or to none
abbrev pub end_count : List Stand → Option ℕ → ℕ
end_count stands pair = count_by (is_end_of pair) stands

-- how many of them have a code below c
abbrev pub ends_before : List Stand → Option ℕ → ℕ → ℕ
ends_before stands pair c = count_by (λ s. is_end_of pair s && nat_lt s.point.code c) stands

-- a transfer point stands for its pair, and that has end points or not, as asked
unfoldable pub is_head_in : List Stand → Bool → Stand → Bool
is_head_in stands inhabited s =
    kind_is_stp s.point.kind && is_at s.point.code s.pair && (if inhabited then nat_lt 0 (end_count stands s.pair) else not (nat_lt 0 (end_count stands s.pair)))

-- that pair alone, or none
abbrev pub head_in : List Stand → Bool → Stand → List ℕ
head_in stands inhabited s = if is_head_in stands inhabited s then s.point.code ∷ [] else []

-- the pairs that have end points, or those that have none
abbrev pub heads_of : List Stand → Bool → List ℕ
heads_of stands inhabited = flat_map (head_in stands inhabited) stands

-- ---- the frame that the places rest on

-- the pairs that have end points, those that have none, the most end points that a pair has, and how many end points belong to none
pub record FrameValue : Type 0 where
  pub hubs : List ℕ
  pub transits : List ℕ
  pub most : ℕ
  pub lone : ℕ

-- the most end points that one of these pairs has
abbrev pub most_ends : List Stand → List ℕ → ℕ
most_ends stands hubs = fold (λ most h. max most (end_count stands (Some h))) 0 hubs

-- the frame of a network's points
abbrev pub frame_of : List Stand → FrameValue
frame_of stands = record {
  hubs = heads_of stands true;
  transits = heads_of stands false;
  most = most_ends stands (heads_of stands true);
  lone = end_count stands None;
}

-- few enough of each for the picture's numbers
pub record IsFewIn (f : FrameValue) : Type 0 where
  pub hubs : length f.hubs ≤ 1024
  pub transits : length f.transits ≤ 1024
  pub most : f.most ≤ 1024
  pub lone : f.lone ≤ 1024

-- ---- how high

-- end points stand on more than one rank
abbrev pub is_staggered : FrameValue → Bool
is_staggered f = nat_lt 6 f.most

-- how many ranks there are
abbrev pub rank_count : FrameValue → ℕ
rank_count f = if is_staggered f then 2 * ((f.most + 23) / 24) else 1

-- the rank of the j-th end point of a pair, the first one nearest to the transfer points
abbrev pub rank_of : FrameValue → ℕ → ℕ
rank_of f j = if is_staggered f then 2 * (j / 24) + j % 2 else 0

-- how many bands of eight so many pairs fill
abbrev pub bands_for : ℕ → ℕ
bands_for n = (n + 7) / 8

-- how many pairs with end points stand above the middle: the first half
abbrev pub half_of : FrameValue → ℕ
half_of f = (length f.hubs + 1) / 2

-- how high a band of pairs with end points is
abbrev pub band_height : FrameValue → ℕ
band_height f = 440 + 72 * rank_count f

-- where the middle begins: below the title and the legend, which take 100, and the bands above it
abbrev pub middle_top : FrameValue → ℕ
middle_top f = 100 + bands_for (half_of f) * band_height f

-- where it ends: a band of pairs without end points takes 190
abbrev pub middle_end : FrameValue → ℕ
middle_end f = middle_top f + 190 * bands_for (length f.transits)

-- where the bands below it end
abbrev pub bands_end : FrameValue → ℕ
bands_end f = middle_end f + bands_for (length f.hubs - half_of f) * band_height f

-- how high the picture is, with the rows of end points that belong to no pair
abbrev pub canvas_height : FrameValue → ℕ
canvas_height f = bands_end f + 60 * ((f.lone + 11) / 12) + 20

-- how high the bands before that of the i-th pair of its side are together
abbrev pub bands_before : FrameValue → ℕ → ℕ
bands_before f i = (i / 8) * band_height f

-- how high the transfer points of a pair stand: the i-th one above the middle, or below it
abbrev pub hub_y : FrameValue → Bool → ℕ → ℕ
hub_y f above i = if above then 100 + bands_before f i + (288 + 72 * rank_count f) else middle_end f + bands_before f i + 152

-- how high a rank of its end points stands
abbrev pub rank_y : FrameValue → Bool → ℕ → ℕ → ℕ
rank_y f above i rank =
    if above then 100 + bands_before f i + (120 + 72 * (rank_count f - (rank + 1))) else middle_end f + bands_before f i + (392 + 72 * rank)

-- how high the transfer points of the i-th pair in the middle stand
abbrev pub transit_y : FrameValue → ℕ → ℕ
transit_y f i = middle_top f + (190 * (i / 8) + 95)

-- ---- how wide

-- how wide the place of a pair with end points is
abbrev pub cell_width : FrameValue → ℕ
cell_width f = max (46 * min f.most 24 + 30) 450

-- how wide the picture is
abbrev pub canvas_width : FrameValue → ℕ
canvas_width f = max (max (min (half_of f) 8 * cell_width f) (300 * min (length f.transits) 8)) 1200

-- the canvas of a picture
abbrev pub canvas_of : FrameValue → Canvas
canvas_of f = record { width = canvas_width f; height = canvas_height f }

-- where the place of the i-th of n pairs begins, each so wide: eight share a band, which is centred
abbrev pub cell_left : FrameValue → ℕ → ℕ → ℕ → ℕ
cell_left f wide i n = (canvas_width f - min (n - 8 * (i / 8)) 8 * wide) / 2 + (i % 8) * wide

-- how far to the right of a spot a transfer point stands: by 180 if it has a mate of a lower code
abbrev pub side_of : Point → ℕ
side_of p = option_map_or (λ m. if nat_lt p.code m then 0 else 180) p.mate 90

-- how far k columns of end points reach
abbrev pub spread : FrameValue → ℕ → ℕ
spread f k = if is_staggered f then 46 * k else 70 * k

-- ---- the places

-- the pair at a place in the list of those that have end points stands above the middle
abbrev pub is_above : FrameValue → ℕ → Bool
is_above f at = nat_lt at (half_of f)

-- its place among those on its side of the middle
abbrev pub place_in : FrameValue → ℕ → ℕ
place_in f at = if is_above f at then at else at - half_of f

-- how many there are on its side
abbrev pub side_count : FrameValue → ℕ → ℕ
side_count f at = if is_above f at then half_of f else length f.hubs - half_of f

-- the middle of its place
abbrev pub hub_x : FrameValue → ℕ → ℕ
hub_x f at = cell_left f (cell_width f) (place_in f at) (side_count f at) + cell_width f / 2

-- a transfer point of a pair that has end points
abbrev pub hub_spot : FrameValue → Point → ℕ → Spot
hub_spot f p at = record { x = hub_x f at + side_of p - 90; y = hub_y f (is_above f at) (place_in f at) }

-- one of the i-th pair that has none
abbrev pub transit_spot : FrameValue → Point → ℕ → Spot
transit_spot f p i = record { x = cell_left f 300 i (length f.transits) + 60 + side_of p; y = transit_y f i }

-- how far to the right the j-th of n end points of a pair stands: they are centred
abbrev pub rank_x : FrameValue → ℕ → ℕ → ℕ → ℕ
rank_x f at j n = hub_x f at + spread f (j % 24) - spread f (min (n - 24 * (j / 24)) 24 - 1) / 2

-- where it stands
abbrev pub rank_spot : FrameValue → ℕ → ℕ → ℕ → Spot
rank_spot f at j n = record { x = rank_x f at j n; y = rank_y f (is_above f at) (place_in f at) (rank_of f j) }

-- the j-th end point that belongs to no pair
abbrev pub lone_spot : FrameValue → ℕ → Spot
lone_spot f j = record { x = 60 + 90 * (j % 12); y = bands_end f + 30 + 60 * (j / 12) }

-- the upper left corner
abbrev pub corner : Spot
corner = record { x = 0; y = 0 }

-- the place of a pair in a list
abbrev pub index_of : List ℕ → ℕ → Option ℕ
index_of pairs h = position (λ k. k == h) pairs

-- where a transfer point of a pair stands
abbrev pub stp_spot : FrameValue → Point → ℕ → Spot
stp_spot f p h = option_map_or (hub_spot f p) (index_of f.hubs h) (option_map_or (transit_spot f p) (index_of f.transits h) corner)

-- where an end point of a pair stands
abbrev pub end_spot : FrameValue → List Stand → ℕ → ℕ → Spot
end_spot f stands c h =
    option_map_or (λ at. rank_spot f at (ends_before stands (Some h) c) (end_count stands (Some h))) (index_of f.hubs h) corner

-- where a point of a pair stands
abbrev pub paired_spot : FrameValue → List Stand → Point → ℕ → Spot
paired_spot f stands p h = if kind_is_stp p.kind then stp_spot f p h else end_spot f stands p.code h

-- where a point stands
unfoldable pub spot_of : FrameValue → List Stand → Stand → Spot
spot_of f stands s = option_map_or (paired_spot f stands s.point) s.pair (lone_spot f (ends_before stands None s.point.code))

-- a point with its place
abbrev pub placed : FrameValue → List Stand → Stand → Place
placed f stands s = record { code = s.point.code; spot = spot_of f stands s }

-- all points with their places, in rising code
abbrev pub places_of : List Stand → List Place
places_of stands = map (placed (frame_of stands) stands) stands

-- the place of a point
abbrev pub spot_at : List Place → ℕ → Spot
spot_at places c = option_map_or (λ (p : Place). p.spot) (find (λ (p : Place). p.code == c) places) corner
