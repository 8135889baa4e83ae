-- The events that tables say.
use Rattle.std.specs.Prelude.{◌≡◌, ℕ, ◌<◌, ◌==◌, ◌&&◌, Bool, true, false, if◌then◌else◌, List, [], ◌∷◌, ◌++◌, length, map, Option, Ok}
use Rattle.std.specs.List.{All, flat_map, list_any}
use Rattle.std.specs.Option.{option_map_or}
use Rattle.net_items.specs.declared.items.Point.{Point}
use Rattle.net_items.specs.declared.items.LinkSet.{LinkSet}
use Rattle.net_items.specs.declared.items.Plan.{Plan}
use Rattle.net_items.specs.declared.lists.Row.{Row}
use Rattle.net_sets.specs.Sets.{is_distinct}
use Rattle.net_data.specs.declared.events.Event.{Event}
use Rattle.net_data.specs.declared.events.Event.TheVariants as on
use Rattle.net_data.specs.Network.{Network}
use Rattle.net_data.specs.Edits.{apply_all}
use Rattle.net_building.specs.Building.{point_event, set_events, plan_event}
use Rattle.plan_ranks.specs.declared.given.RowRank.{RowRank}
use Rattle.plan_ranks.specs.Given.{unranked_row}
use Rattle.net_sheets.specs.About.{bare_plan, ranks_of, IsAbout}
use Rattle.plan_ranks.specs.Ranks.{IsLeast, with_ranks}
use Rattle.net_sheets.specs.declared.routes.Route.{Route}
use Rattle.net_sheets.specs.Tables.{points_header, sets_header, routes_header, routes_of}
use Rattle.net_sheets.specs.Values.{point_of, set_of, route_of, Holds}

-- one of those points names m as the mate of p
abbrev pub is_named : List Point → ℕ → ℕ → Bool
is_named points p m = list_any (λ (q : Point). q.code == p && option_map_or (λ x. x == m) q.mate false) points

-- a point is paired with the mate that it names, unless one of the earlier points is that mate and names it
abbrev pub pair_event : List Point → Point → List Event
pair_event earlier p = option_map_or (λ m. if is_named earlier m p.code then [] else on.Pair p.code m ∷ []) p.mate []

-- the mated pairs of points that come after those
abbrev pub pair_events_after : List Point → List Point → List Event
pair_events_after earlier [] = []
pair_events_after earlier (p ∷ ps) = pair_event earlier p ++ pair_events_after (earlier ++ p ∷ []) ps

-- the event of a plan without rows
abbrev pub bare_events : ℕ → List Event
bare_events dest = plan_event (bare_plan dest) ∷ []

-- the events of tables: each point, each mated pair, each set with its links' marks, each plan without rows, each other plan
abbrev pub events_of_sheets : List Point → List LinkSet → List ℕ → List Plan → List Event
events_of_sheets points sets bare plans =
    map point_event points ++ (pair_events_after [] points ++ (flat_map set_events sets ++ (flat_map bare_events bare ++ map plan_event plans)))

-- the empty network of a network indicator and an option
abbrev pub empty_net : ℕ → Bool → Network
empty_net ni tfr = record { ni = ni; tfr = tfr; points = []; sets = []; plans = [] }

-- a plan with a row, whose rows have the least ranks
pub record IsRankedPlan (points : List Point) (p : Plan) : Type 0 where
  pub some_row : 0 < length p.rows
  pub least : IsLeast points p.dest p.rows (map (λ (r : Row). r.rank) p.rows)

-- a plan but for its ranks
abbrev pub unranked : Plan → Plan
unranked p = record p { rows = map unranked_row p.rows }

-- plans that are the old ones but for their ranks, which are those
pub record HaveRanks (old : List Plan) (ranks : List RowRank) (new : List Plan) : Type 0 where
  pub same : map unranked new ≡ map unranked old
  pub told : ranks_of new ≡ ranks

-- the plans of a network with those ranks lead to another
pub record GivesRanks (old : Network) (ranks : List RowRank) (new : Network) : Type 0 where
  pub plans : List Plan
  pub given : HaveRanks old.plans ranks plans
  pub built : apply_all old (map plan_event plans) ≡ Ok new

-- the same if ranks are given at all
abbrev pub IsRankedBy : Network → List RowRank → Network → Type 0
IsRankedBy old [] new = new ≡ old
IsRankedBy old (r ∷ rs) new = GivesRanks old (r ∷ rs) new

-- what the texts of tables say, of which the network's own may be missing: a network, whose rows have the least ranks, and then those that
-- its own table gives, if it gives any
pub record Says (network_file : Option (List ℕ)) (points_file sets_file routes_file : List ℕ) (net : Network) : Type 0 where
  pub ni : ℕ
  pub tfr : Bool
  pub bare : List ℕ
  pub ranks : List RowRank
  pub points : List Point
  pub sets : List LinkSet
  pub plans : List Plan
  pub least : Network
  pub network_told : IsAbout network_file ni tfr bare ranks
  pub points_told : Holds point_of points_header points_file (Ok points)
  pub sets_told : Holds set_of sets_header sets_file (Ok sets)
  pub routes_told : Holds route_of routes_header routes_file (Ok (routes_of plans))
  pub plans_apart : is_distinct (bare ++ map (λ (p : Plan). p.dest) plans) ≡ true
  pub plans_ranked : All (IsRankedPlan least.points) plans
  pub built : apply_all (empty_net ni tfr) (events_of_sheets points sets bare plans) ≡ Ok least
  pub ranked : IsRankedBy least ranks net

-- the events lead from one network to another
pub record Leads (old : Network) (events : List Event) (new : Network) : Type 0 where
  pub all : apply_all old events ≡ Ok new

-- a plan of those rows, with the least ranks, leads from one network to another
pub record AddsPlan (old : Network) (dest : ℕ) (rows : List Row) (new : Network) : Type 0 where
  pub ranks : List ℕ
  pub least : IsLeast old.points dest rows ranks
  pub built : Leads old (plan_event (record { dest = dest; rows = with_ranks rows ranks }) ∷ []) new

-- the plans without rows of those destinations lead from one network to another
pub record AddsBare (old : Network) (bare : List ℕ) (new : Network) : Type 0 where
  pub apart : is_distinct bare ≡ true
  pub built : Leads old (flat_map bare_events bare) new

-- the plans of those routes, with the least ranks, lead from one network to another, and none is of one of those destinations
pub record AddsPlans (old : Network) (bare : List ℕ) (routes : List Route) (new : Network) : Type 0 where
  pub plans : List Plan
  pub told : routes_of plans ≡ routes
  pub apart : is_distinct (bare ++ map (λ (p : Plan). p.dest) plans) ≡ true
  pub ranked : All (IsRankedPlan old.points) plans
  pub built : Leads old (map plan_event plans) new
  pub kept : new.points ≡ old.points

-- the points of a text and their mated pairs lead from one network to another
pub record AddsPoints (old : Network) (text : List ℕ) (new : Network) : Type 0 where
  pub points : List Point
  pub told : Holds point_of points_header text (Ok points)
  pub built : Leads old (map point_event points ++ pair_events_after [] points) new

-- the sets of a text lead from one network to another
pub record AddsSets (old : Network) (text : List ℕ) (new : Network) : Type 0 where
  pub sets : List LinkSet
  pub told : Holds set_of sets_header text (Ok sets)
  pub built : Leads old (flat_map set_events sets) new

-- the routes of a text lead from one network to another
pub record AddsRoutes (old : Network) (bare : List ℕ) (text : List ℕ) (new : Network) : Type 0 where
  pub routes : List Route
  pub told : Holds route_of routes_header text (Ok routes)
  pub built : AddsPlans old bare routes new

-- points, sets, plans without rows and routes lead from one network to another, one after the other
pub record AddsAll (old : Network) (points sets bare routes : List ℕ) (new : Network) : Type 0 where
  pub one : Network
  pub two : Network
  pub three : Network
  pub points_added : AddsPoints old points one
  pub sets_added : AddsSets one sets two
  pub bare_added : AddsBare two bare three
  pub routes_added : AddsRoutes three bare routes new
