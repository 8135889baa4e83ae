-- A valid network.
use Rattle.std.specs.Prelude.{◌≡◌, ◌≢◌, ℕ, ◌<◌, ◌≤◌, true, false, not, ◌&&◌, ◌==◌, Some, List, length}
use Rattle.std.specs.List.{AllByRecursion}
use Rattle.net_items.specs.declared.items.Point.{Point}
use Rattle.net_items.specs.declared.items.LinkSet.{LinkSet}
use Rattle.net_items.specs.declared.items.Plan.{Plan}
use Rattle.net_items.specs.declared.lists.Row.{Row}
use Rattle.net_items.specs.declared.links.Link.{Link}
use Rattle.net_items.specs.Keyed.{IsRising}
use Rattle.net_items.specs.Lookups.{has_point, is_stp, mate_of, adjacent, vias_of}
use Rattle.net_sets.specs.Sets.{is_distinct, is_nil, IsOnePerPair}
use Rattle.plan_rows.specs.Rows.{all_vias, is_lower, is_free, has_mate_row, is_small_row}
use Rattle.net_data.specs.Network.{Network}

-- a row of the plan of dest with those rows
pub record IsRightRow (points : List Point) (sets : List LinkSet) (dest : ℕ) (rows : List Row) (r : Row) : Type 0 where
  pub is_there : has_point points r.point ≡ true
  pub small : is_small_row r ≡ true
  pub not_dest : (r.point == dest) ≡ false
  pub vias_joined : all_vias (adjacent sets r.point) r ≡ true
  pub vias_once : is_distinct (vias_of r) ≡ true
  pub vias_lower : all_vias (is_lower points dest rows r) r ≡ true
  pub vias_not_mate : all_vias (is_free points dest r.point) r ≡ true
  pub mate_right : (r.mate && not (has_mate_row points sets dest rows r)) ≡ false
  pub has_route : (is_nil r.classes && not r.mate) ≡ false

-- a plan whose destination is there, with right rows in rising code
pub record IsRightPlan (points : List Point) (sets : List LinkSet) (p : Plan) : Type 0 where
  pub is_there : has_point points p.dest ≡ true
  pub rows_rise : IsRising (λ (r : Row). r.point) p.rows
  pub rows_right : AllByRecursion (IsRightRow points sets p.dest p.rows) p.rows

-- a set of a small id with one to sixteen links, that joins two points which are there
pub record IsRightSet (points : List Point) (s : LinkSet) : Type 0 where
  pub small : s.id ≤ 4095
  pub a_there : has_point points s.a ≡ true
  pub b_there : has_point points s.b ≡ true
  pub ends_differ : s.a ≢ s.b
  pub some_link : 0 < length s.links
  pub few_links : length s.links ≤ 16
  pub links_rise : IsRising (λ (l : Link). l.slc) s.links
  pub links_small : AllByRecursion (λ (l : Link). l.slc < 16) s.links

-- p and m are mates
pub record AreMates (points : List Point) (p m : ℕ) : Type 0 where
  pub differ : p ≢ m
  pub stp : is_stp points p ≡ true
  pub back : mate_of points m ≡ Some p

-- a network whose points, sets and plans are in order, with mates of each other, right sets and right plans
pub record IsValid (net : Network) : Type 0 where
  pub ni_small : net.ni < 4
  pub few_points : length net.points ≤ 1024
  pub points_rise : IsRising (λ (p : Point). p.code) net.points
  pub codes_small : AllByRecursion (λ (p : Point). p.code < 16384) net.points
  pub mates : (p m : ℕ) → mate_of net.points p ≡ Some m → AreMates net.points p m
  pub sets_rise : IsRising (λ (s : LinkSet). s.id) net.sets
  pub sets_right : AllByRecursion (IsRightSet net.points) net.sets
  pub one_per_pair : IsOnePerPair net.sets
  pub plans_rise : IsRising (λ (p : Plan). p.dest) net.plans
  pub plans_right : AllByRecursion (IsRightPlan net.points net.sets) net.plans
