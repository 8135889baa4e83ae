-- What a fault of tables tells.
use Rattle.std.specs.Prelude.{◌≡◌, ℕ, ◌-◌, ◌≤◌, ◌==◌, ◌&&◌, ◌⊎◌, nat_le, Bool, true, false, List, [], ◌∷◌, ◌++◌, map, slice_get, Option, Some, None, Result, Ok, Err}
use Rattle.std.specs.List.{flat_map}
use Rattle.std.specs.Option.{option_map_or}
use Rattle.net_items.specs.declared.items.Point.{Point}
use Rattle.net_items.specs.declared.lists.Row.{Row}
use Rattle.net_data.specs.declared.events.Refusal.{Refusal}
use Rattle.net_data.specs.declared.events.Event.{Event}
use Rattle.net_data.specs.Network.{Network}
use Rattle.net_data.specs.Edits.{refusal_of, apply_all}
use Rattle.plan_rows.specs.Rows.{is_mate}
use Rattle.net_building.specs.Building.{point_event, set_events, plan_event}
use Rattle.net_sheets.specs.declared.routes.Route.{Route}
use Rattle.net_sheets.specs.declared.routes.Route.TheVariants.{Via, Mate}
use Rattle.net_sheets.specs.declared.faults.Flaw.{Flaw}
use Rattle.net_sheets.specs.declared.faults.Flaw.TheVariants as flaw
use Rattle.net_sheets.specs.declared.faults.Reason.{Reason}
use Rattle.net_sheets.specs.declared.faults.Reason.TheVariants.{Csv, Columns, Field, FifthClass, Keys, Indicator, PlanThere, PlanBare, RankOrder, ThirdVia, SplitDestination, SplitPoint, ClassOrder, Refused, MateLoop, Loop, TooDeep, OutOfMemory}
use Rattle.net_sheets.specs.declared.faults.Sheet.{Sheet}
use Rattle.net_sheets.specs.declared.faults.Sheet.TheVariants as sheet
use Rattle.plan_ranks.specs.Ranks.{HasNoRanks, IsLeast, with_ranks}
use Rattle.plan_ranks.specs.Loops.{is_loop}
use Rattle.net_sheets.specs.Tables.{Fields, points_header, sets_header, routes_header, row_routes}
use Rattle.net_sheets.specs.Values.{Read, point_of, set_of, route_of, Holds}
use Rattle.net_items.specs.declared.items.Plan.{Plan}
use Rattle.plan_ranks.specs.declared.given.RowRank.{RowRank}
use Rattle.net_sheets.specs.About.{network_header, bare_plan, entry_of, IsAbout}
use Rattle.net_sheets.specs.Events.{pair_events_after, bare_events, empty_net, HaveRanks, AddsPoints, AddsSets, AddsBare, AddsPlans, AddsAll}

-- what is told of a record that says nothing
abbrev pub reason_of : Flaw → Reason
reason_of (flaw.Column n) = Field n
reason_of flaw.FifthClass = FifthClass

-- what is told is the flaw of the first record that has no value
abbrev pub IsFieldFault : {A : Type 0} → Read (List A) → Reason → Type 0
IsFieldFault answer (Field n) = answer ≡ Err (flaw.Column n)
IsFieldFault answer FifthClass = answer ≡ Err flaw.FifthClass
IsFieldFault answer OutOfMemory = Unit {0}
IsFieldFault answer _ = ⊥

-- a refusal is that of the first event that the network's rules refuse
abbrev pub IsRefusal : Result Network Refusal → Reason → Type 0
IsRefusal applied (Refused refusal) = applied ≡ Err refusal
IsRefusal applied OutOfMemory = Unit {0}
IsRefusal applied _ = ⊥

-- an event is refused
pub record Refuses (net : Network) (event : Event) (refusal : Refusal) : Type 0 where
  pub first : refusal_of net event ≡ Some refusal

-- a way is a via of this class of this row
abbrev pub is_via_of : ℕ → ℕ → ℕ → Route → Bool
is_via_of dest y class (Via to from k z) = to == dest && from == y && k == class
is_via_of dest y class (Mate to from) = false

-- the way at a place is one
abbrev pub is_via_at : List Route → ℕ → ℕ → ℕ → ℕ → Bool
is_via_at routes place dest y class = option_map_or (is_via_of dest y class) (slice_get routes place) false

-- the two ways before a place are
abbrev pub are_two_before : List Route → ℕ → ℕ → ℕ → ℕ → Bool
are_two_before routes place dest y class = nat_le 2 place && is_via_at routes (place - 2) dest y class && is_via_at routes (place - 1) dest y class

-- a way at a place is a via, and the two before it are of the same class of the same row
abbrev pub is_third_way : List Route → ℕ → Route → Bool
is_third_way routes place (Via dest y class z) = are_two_before routes place dest y class
is_third_way routes place (Mate dest y) = false

-- at a place stands a third via of a class
abbrev pub is_third : List Route → ℕ → Bool
is_third routes place = option_map_or (is_third_way routes place) (slice_get routes place) false

-- routes that are out of order, or a third via of a class
abbrev pub IsRowsFault : List Route → Reason → Type 0
IsRowsFault routes SplitPoint = Unit {0}
IsRowsFault routes ClassOrder = Unit {0}
IsRowsFault routes ThirdVia = (place : ℕ) × (is_third routes place ≡ true)
IsRowsFault routes OutOfMemory = Unit {0}
IsRowsFault routes _ = ⊥

-- rows have no ranks, and a loop is told if one was found
abbrev pub IsUnranked : List Point → ℕ → List Row → Reason → Type 0
IsUnranked points dest rows (Loop codes) = HasNoRanks points dest rows × (is_loop points dest rows codes.items ≡ true)
IsUnranked points dest rows (MateLoop y z) = HasNoRanks points dest rows × (is_loop points dest rows (y ∷ z ∷ []) ≡ true) × (is_mate points y z ≡ true)
IsUnranked points dest rows TooDeep = HasNoRanks points dest rows
IsUnranked points dest rows OutOfMemory = Unit {0}
IsUnranked points dest rows _ = ⊥

-- a plan of those rows is refused with the least ranks, or has none
abbrev pub IsPlanFault : Network → ℕ → List Row → Reason → Type 0
IsPlanFault net dest rows (Refused refusal) =
    (ranks : List ℕ) × IsLeast net.points dest rows ranks × Refuses net (plan_event (record { dest = dest; rows = with_ranks rows ranks })) refusal
IsPlanFault net dest rows reason = IsUnranked net.points dest rows reason

-- the plan after those that the first routes make has that fault
pub record StopsAt (old : Network) (bare : List ℕ) (routes : List Route) (reason : Reason) : Type 0 where
  pub done : List Route
  pub dest : ℕ
  pub rows : List Row
  pub rest : List Route
  pub mid : Network
  pub split : routes ≡ done ++ (flat_map (row_routes dest) rows ++ rest)
  pub before : AddsPlans old bare done mid
  pub fault : IsPlanFault mid dest rows reason

-- routes are out of order or of a plan without rows, or a plan of them has a fault
abbrev pub IsRoutesFault : Network → List ℕ → List Route → Reason → Type 0
IsRoutesFault old bare routes SplitDestination = Unit {0}
IsRoutesFault old bare routes PlanBare = Unit {0}
IsRoutesFault old bare routes (Refused refusal) = StopsAt old bare routes (Refused refusal)
IsRoutesFault old bare routes (MateLoop y z) = StopsAt old bare routes (MateLoop y z)
IsRoutesFault old bare routes (Loop codes) = StopsAt old bare routes (Loop codes)
IsRoutesFault old bare routes TooDeep = StopsAt old bare routes TooDeep
IsRoutesFault old bare routes reason = IsRowsFault routes reason

-- keys that don't stand in their order, or a network indicator above 3
abbrev pub IsKeysFault : Reason → Type 0
IsKeysFault Keys = Unit {0}
IsKeysFault Indicator = Unit {0}
IsKeysFault OutOfMemory = Unit {0}
IsKeysFault _ = ⊥

-- a plan without rows is refused, or one of its destination is there
abbrev pub IsOneBareFault : Network → ℕ → Reason → Type 0
IsOneBareFault net dest PlanThere = Unit {0}
IsOneBareFault net dest (Refused refusal) = Refuses net (plan_event (bare_plan dest)) refusal
IsOneBareFault net dest OutOfMemory = Unit {0}
IsOneBareFault net dest _ = ⊥

-- one of these plans without rows is refused, or stands twice
abbrev pub IsBareFault : Network → List ℕ → Reason → Type 0
IsBareFault old bare PlanThere = Unit {0}
IsBareFault old bare reason = IsRefusal (apply_all old (flat_map bare_events bare)) reason

-- ranks that aren't those of the rows of the plans, in their order
abbrev pub IsOrderFault : Reason → Type 0
IsOrderFault RankOrder = Unit {0}
IsOrderFault OutOfMemory = Unit {0}
IsOrderFault _ = ⊥

-- the plans of a network with those ranks are refused
pub record RefusesRanks (old : Network) (ranks : List RowRank) (refusal : Refusal) : Type 0 where
  pub plans : List Plan
  pub given : HaveRanks old.plans ranks plans
  pub stops : apply_all old (map plan_event plans) ≡ Err refusal

-- the plans of a network with those ranks are refused, or the ranks are out of order
abbrev pub IsRanksFault : Network → List RowRank → Reason → Type 0
IsRanksFault old ranks (Refused refusal) = RefusesRanks old ranks refusal
IsRanksFault old ranks reason = IsOrderFault reason

-- a fault before any record is read: no CSV, or another header
abbrev pub IsTableFault : Reason → Type 0
IsTableFault Csv = Unit {0}
IsTableFault Columns = Unit {0}
IsTableFault OutOfMemory = Unit {0}
IsTableFault _ = ⊥

-- a fault of the text of a table, whose values make events
abbrev pub IsTextFault : {A : Type 0} → (Fields → Read A) → Fields → (List A → Reason → Type 0) → List ℕ → Reason → Type 0
IsTextFault of header fault text Csv = Unit {0}
IsTextFault of header fault text Columns = Unit {0}
IsTextFault of header fault text OutOfMemory = Unit {0}
IsTextFault of header fault text (Field n) = Holds of header text (Err (flaw.Column n))
IsTextFault of header fault text FifthClass = Holds of header text (Err flaw.FifthClass)
IsTextFault {A} of header fault text reason = (values : List A) × Holds of header text (Ok values) × fault values reason

-- a fault of the table of points, of the table of sets, and of the table of routes, each with what is there before
abbrev pub IsPointsFault : Network → List ℕ → Reason → Type 0
IsPointsFault old text reason = IsTextFault point_of points_header (λ points. IsRefusal (apply_all old (map point_event points ++ pair_events_after [] points))) text reason

abbrev pub IsSetsFault : Network → List ℕ → Reason → Type 0
IsSetsFault old text reason = IsTextFault set_of sets_header (λ sets. IsRefusal (apply_all old (flat_map set_events sets))) text reason

abbrev pub IsRoutesTextFault : Network → List ℕ → List ℕ → Reason → Type 0
IsRoutesTextFault old bare text reason = IsTextFault route_of routes_header (IsRoutesFault old bare) text reason

-- a fault of the table of a network, which may be missing, before the others are read
abbrev pub IsAboutFault : Option (List ℕ) → Reason → Type 0
IsAboutFault None OutOfMemory = Unit {0}
IsAboutFault None _ = ⊥
IsAboutFault (Some text) reason = IsTextFault entry_of network_header (λ entries. IsKeysFault) text reason

-- a fault of points, sets, plans without rows and routes, each with what is there before
abbrev pub IsAddingFault : Network → List ℕ → List ℕ → List ℕ → List ℕ → Sheet → Reason → Type 0
IsAddingFault old points sets bare routes sheet.Points reason = IsPointsFault old points reason
IsAddingFault old points sets bare routes sheet.Sets reason = (one : Network) × AddsPoints old points one × IsSetsFault one sets reason
IsAddingFault old points sets bare routes sheet.Network reason =
    (one : Network) × (two : Network) × AddsPoints old points one × AddsSets one sets two × IsBareFault two bare reason
IsAddingFault old points sets bare routes sheet.Routes reason =
    (one : Network) × (two : Network) × (three : Network) × AddsPoints old points one × AddsSets one sets two × AddsBare two bare three
    × IsRoutesTextFault three bare routes reason

-- the same, after what the table of the network says
pub record IsLaterFault (network : Option (List ℕ)) (points sets routes : List ℕ) (on : Sheet) (reason : Reason) : Type 0 where
  pub ni : ℕ
  pub tfr : Bool
  pub bare : List ℕ
  pub ranks : List RowRank
  pub told : IsAbout network ni tfr bare ranks
  pub fault : IsAddingFault (empty_net ni tfr) points sets bare routes on reason

-- a fault of the ranks that the table of the network gives, after all else
pub record IsRankingFault (network : Option (List ℕ)) (points sets routes : List ℕ) (reason : Reason) : Type 0 where
  pub ni : ℕ
  pub tfr : Bool
  pub bare : List ℕ
  pub ranks : List RowRank
  pub told : IsAbout network ni tfr bare ranks
  pub least : Network
  pub added : AddsAll (empty_net ni tfr) points sets bare routes least
  pub fault : IsRanksFault least ranks reason

-- a fault of the tables of a network
abbrev pub IsFaultOf : Option (List ℕ) → List ℕ → List ℕ → List ℕ → Sheet → Reason → Type 0
IsFaultOf network points sets routes on reason =
    ((on ≡ sheet.Network) × IsAboutFault network reason) ⊎ IsLaterFault network points sets routes on reason
    ⊎ ((on ≡ sheet.Network) × IsRankingFault network points sets routes reason)
