-- What faults tell, put together.
use Rattle.std.proofs.Common.{◌≡◌, ◌≢◌, ℕ, ◌<◌, length, get_or, Option, Some, None, List, [], ◌++◌, map, take, drop, Result, Ok, Err, ap, sym, ◌∙◌, subst, append_assoc}
use Rattle.std.specs.List.{flat_map}
use Rattle.std.specs.Result.{IfErr}
use Rattle.std.proofs.lemmas.List.{take-append-drop}
use Rattle.net_items.specs.declared.items.Point.{Point}
use Rattle.net_items.specs.declared.lists.Row.{Row}
use Rattle.net_data.specs.declared.events.Event.{Event}
use Rattle.net_data.specs.declared.events.Refusal.{Refusal}
use Rattle.net_data.specs.declared.events.Refusal.TheVariants as no
use Rattle.net_data.specs.Network.{Network}
use Rattle.net_data.specs.Edits.{refusal_of, apply_all, unless_refused}
use Rattle.net_building.specs.Building.{point_event, plan_event}
use Rattle.net_sheets.specs.declared.faults.SpotFault.{SpotFault}
use Rattle.net_sheets.specs.declared.faults.Flaw.{Flaw}
use Rattle.net_sheets.specs.declared.faults.Flaw.TheVariants as flaw
use Rattle.net_sheets.specs.declared.faults.Reason.{Reason}
use Rattle.net_sheets.specs.declared.faults.Reason.TheVariants.{Csv, Columns, Field, FifthClass, Keys, Indicator, PlanThere, PlanBare, ThirdVia, SplitDestination, SplitPoint, ClassOrder, Refused, MateLoop, Loop, TooDeep, OutOfMemory}
use Rattle.net_sheets.specs.declared.routes.Route.{Route}
use Rattle.plan_ranks.specs.Ranks.{IsLeast, with_ranks}
use Rattle.net_sheets.specs.Tables.{Fields, points_header, routes_header, row_routes}
use Rattle.net_sheets.specs.Values.{Read, point_of, route_of, Holds}
use Rattle.net_sheets.specs.declared.about.Entry.{Entry}
use Rattle.net_sheets.specs.About.{network_header, bare_plan, entry_of}
use Rattle.net_sheets.specs.Events.{pair_events_after, bare_events, AddsPlans}
use Rattle.net_sheets.specs.Faults.{reason_of, IsFieldFault, IsRowsFault, IsRefusal, IsUnranked, IsPlanFault, StopsAt, IsRoutesFault, IsTextFault, IsPointsFault, IsRoutesTextFault, IsKeysFault, IsOneBareFault, IsBareFault, IsAboutFault, Refuses}
use Rattle.net_building.proofs.StepLemmas.{apply_append}
use Rattle.net_sheets.proofs.BuildingLemmas.{stop_append, stop_first, stop_more}

pub where_err : {A : Type 0} (r : Result A SpotFault) (P Q : Reason → Type 0) → ((reason : Reason) → P reason → Q reason) → IfErr r (λ fault. P fault.reason) → IfErr r (λ fault. Q fault.reason)
where_err (Ok x) P Q f h = tt
where_err (Err fault) P Q f h = f fault.reason h

-- ---- one table

pub field_told : {A : Type 0} (of : Fields → Read A) (header : Fields) (fault : List A → Reason → Type 0) (text : List ℕ) (answer : Read (List A)) (reason : Reason) → Holds of header text answer → IsFieldFault answer reason → IsTextFault of header fault text reason
field_told of header fault text answer (Field n) told h = subst (Holds of header text) h told
field_told of header fault text answer FifthClass told h = subst (Holds of header text) h told
field_told of header fault text answer OutOfMemory told h = tt
field_told of header fault text answer Csv told h = tt
field_told of header fault text answer Columns told h = tt
field_told of header fault text answer _ told h = absurd h

pub values_fault : {A : Type 0} (of : Fields → Read A) (header : Fields) (fault : List A → Reason → Type 0) (text : List ℕ) (values : List A) (reason : Reason) → ((f : Flaw) → fault values (reason_of f) → ⊥) → Holds of header text (Ok values) → fault values reason
    → IsTextFault of header fault text reason
values_fault of header fault text values (Field n) none told h = absurd (none (flaw.Column n) h)
values_fault of header fault text values FifthClass none told h = absurd (none flaw.FifthClass h)
values_fault of header fault text values OutOfMemory none told h = tt
values_fault of header fault text values Csv none told h = tt
values_fault of header fault text values Columns none told h = tt
values_fault of header fault text values _ none told h = (values, told, h)

-- ---- points

refused_early : (old : Network) (es fs : List Event) (reason : Reason) → IsRefusal (apply_all old es) reason → IsRefusal (apply_all old (es ++ fs)) reason
refused_early old es fs (Refused r) h = stop_append old es fs r h
refused_early old es fs OutOfMemory h = tt
refused_early old es fs _ h = absurd h

-- a refusal is no flaw of a record
no_flaw : (applied : Result Network Refusal) (f : Flaw) → IsRefusal applied (reason_of f) → ⊥
no_flaw applied (flaw.Column n) h = h
no_flaw applied flaw.FifthClass h = h

pub points_refused : (old : Network) (text : List ℕ) (points added : List Point) → Holds point_of points_header text (Ok points) → added ≡ points → (reason : Reason) → IsRefusal (apply_all old (map point_event added)) reason → IsPointsFault old text reason
points_refused old text points added told e reason h =
    values_fault point_of points_header (λ ps. IsRefusal (apply_all old (map point_event ps ++ pair_events_after [] ps))) text points reason (no_flaw _) told
    (refused_early old (map point_event points) (pair_events_after [] points) reason (subst (λ ps. IsRefusal (apply_all old (map point_event ps)) reason) e h))

pub pairs_refused : (old mid : Network) (text : List ℕ) (points added paired : List Point) → Holds point_of points_header text (Ok points) → added ≡ points → paired ≡ points → apply_all old (map point_event added) ≡ Ok mid
    → (reason : Reason) → IsRefusal (apply_all mid (pair_events_after [] paired)) reason → IsPointsFault old text reason
pairs_refused old mid text points added paired told e1 e2 first reason h =
    let same : apply_all old (map point_event points ++ pair_events_after [] points) ≡ apply_all mid (pair_events_after [] points) = apply_append old mid (map point_event points) (pair_events_after [] points) (ap (λ ps. apply_all old (map point_event ps)) (sym e1) ∙ first) in
    values_fault point_of points_header (λ ps. IsRefusal (apply_all old (map point_event ps ++ pair_events_after [] ps))) text points reason (no_flaw _) told
    (subst (λ r. IsRefusal r reason) (sym same) (subst (λ ps. IsRefusal (apply_all mid (pair_events_after [] ps)) reason) e2 h))

-- ---- routes

pub plan_unranked : (net : Network) (dest : ℕ) (rows : List Row) (reason : Reason) → IsUnranked net.points dest rows reason → IsPlanFault net dest rows reason
plan_unranked net dest rows (Refused r) h = absurd h
plan_unranked net dest rows _ h = h

refused_once : (o : Option Refusal) (net : Network) (r : Refusal) → unless_refused o (Ok net) ≡ Err r → o ≡ Some r
refused_once (Some q) net r h = let same : ◌≡◌ {A = Result Network Refusal} (Err q) (Err r) = h in cc
refused_once None net r h = absurd (cc)

plan_refused : (net : Network) (dest : ℕ) (rows : List Row) (ranks : List ℕ) → IsLeast net.points dest rows ranks → (reason : Reason)
    → IsRefusal (unless_refused (refusal_of net (plan_event (record { dest = dest; rows = with_ranks rows ranks }))) (Ok net)) reason → IsPlanFault net dest rows reason
plan_refused net dest rows ranks least (Refused r) h = (ranks, least, record { first = refused_once (refusal_of net (plan_event (record { dest = dest; rows = with_ranks rows ranks }))) net r h })
plan_refused net dest rows ranks least OutOfMemory h = tt
plan_refused net dest rows ranks least _ h = absurd h

pub plan_told : (net : Network) (dest : ℕ) (rows : List Row) (ranks : List ℕ) (event : Event) (e : Refusal) (reason : Reason) → IsLeast net.points dest rows ranks → event ≡ plan_event (record { dest = dest; rows = with_ranks rows ranks })
    → (e ≢ no.OutOfMemory → Refuses net event e) → ((applied : Result Network Refusal) → (e ≢ no.OutOfMemory → applied ≡ Err e) → IsRefusal applied reason) → IsPlanFault net dest rows reason
plan_told net dest rows ranks event e reason least same refused told =
    let p : Event = plan_event (record { dest = dest; rows = with_ranks rows ranks }) in
    plan_refused net dest rows ranks least reason
    (told (unless_refused (refusal_of net p) (Ok net)) (λ other. ap (λ o. unless_refused o (Ok net)) (ap (refusal_of net) (sym same) ∙ (refused other).first)))

pub stops_at : (old mid : Network) (bare : List ℕ) (routes : List Route) (dest at end : ℕ) (rows : List Row) (reason : Reason) → AddsPlans old bare (take at routes) mid → take at routes ++ flat_map (row_routes dest) rows ≡ take end routes → IsPlanFault mid dest rows reason
    → IsRoutesFault old bare routes reason
stops_at old mid bare routes dest at end rows reason before told fault = go reason fault
  where
    split : routes ≡ take at routes ++ (flat_map (row_routes dest) rows ++ drop end routes)
    split = sym (take-append-drop end routes) ∙ ap (λ rs. rs ++ drop end routes) (sym told) ∙ append_assoc (take at routes) (flat_map (row_routes dest) rows) (drop end routes)

    stop : (r : Reason) → IsPlanFault mid dest rows r → StopsAt old bare routes r
    stop r f = record { done = take at routes; dest = dest; rows = rows; rest = drop end routes; mid = mid; split = split; before = before; fault = f }

    go : (r : Reason) → IsPlanFault mid dest rows r → IsRoutesFault old bare routes r
    go (Refused q) f = stop (Refused q) f
    go (MateLoop y z) f = stop (MateLoop y z) f
    go (Loop codes) f = stop (Loop codes) f
    go TooDeep f = stop TooDeep f
    go OutOfMemory f = tt
    go _ f = absurd f

-- a fault of the rows of a plan is one of the routes
pub rows_fault : (old : Network) (bare : List ℕ) (routes : List Route) (reason : Reason) → IsRowsFault routes reason → IsRoutesFault old bare routes reason
rows_fault old bare routes SplitDestination h = absurd h
rows_fault old bare routes PlanBare h = absurd h
rows_fault old bare routes (Refused r) h = absurd h
rows_fault old bare routes (MateLoop y z) h = absurd h
rows_fault old bare routes (Loop codes) h = absurd h
rows_fault old bare routes TooDeep h = absurd h
rows_fault old bare routes _ h = h

-- a fault of routes is no flaw of a record
no_flaw_of_routes : (old : Network) (bare : List ℕ) (routes : List Route) (f : Flaw) → IsRoutesFault old bare routes (reason_of f) → ⊥
no_flaw_of_routes old bare routes (flaw.Column n) h = h
no_flaw_of_routes old bare routes flaw.FifthClass h = h

pub routes_fault : (old : Network) (bare text : List ℕ) (routes told : List Route) → Holds route_of routes_header text (Ok routes) → told ≡ routes → (reason : Reason) → IsRoutesFault old bare told reason → IsRoutesTextFault old bare text reason
routes_fault old bare text routes told holds e reason h =
    values_fault route_of routes_header (IsRoutesFault old bare) text routes reason (no_flaw_of_routes old bare routes) holds (subst (λ rs. IsRoutesFault old bare rs reason) e h)

-- ---- the table of a network

no_flaw_of_keys : (f : Flaw) → IsKeysFault (reason_of f) → ⊥
no_flaw_of_keys (flaw.Column n) h = h
no_flaw_of_keys flaw.FifthClass h = h

pub keys_told : (text : List ℕ) (entries : List Entry) → Holds entry_of network_header text (Ok entries) → (reason : Reason) → IsKeysFault reason → IsAboutFault (Some text) reason
keys_told text entries told reason h = values_fault entry_of network_header (λ es. IsKeysFault) text entries reason no_flaw_of_keys told h

pub memory_about : (network : Option (List ℕ)) → IsAboutFault network OutOfMemory
memory_about None = tt
memory_about (Some text) = tt

bare_refused_told : (net : Network) (dest : ℕ) (reason : Reason) → IsRefusal (unless_refused (refusal_of net (plan_event (bare_plan dest))) (Ok net)) reason → IsOneBareFault net dest reason
bare_refused_told net dest (Refused r) h = record { first = refused_once (refusal_of net (plan_event (bare_plan dest))) net r h }
bare_refused_told net dest OutOfMemory h = tt
bare_refused_told net dest _ h = absurd h

pub bare_told : (net : Network) (dest : ℕ) (event : Event) (e : Refusal) (reason : Reason) → event ≡ plan_event (bare_plan dest) → (e ≢ no.OutOfMemory → Refuses net event e)
    → ((applied : Result Network Refusal) → (e ≢ no.OutOfMemory → applied ≡ Err e) → IsRefusal applied reason) → IsOneBareFault net dest reason
bare_told net dest event e reason same refused told =
    let p : Event = plan_event (bare_plan dest) in
    bare_refused_told net dest reason
    (told (unless_refused (refusal_of net p) (Ok net)) (λ other. ap (λ o. unless_refused o (Ok net)) (ap (refusal_of net) (sym same) ∙ (refused other).first)))

pub bare_refused : (old mid : Network) (bare : List ℕ) (i d : ℕ) (reason : Reason) → i < length bare → IsOneBareFault mid (get_or bare i d) reason
    → apply_all mid (flat_map bare_events (drop i bare)) ≡ apply_all old (flat_map bare_events bare) → IsBareFault old bare reason
bare_refused old mid bare i d PlanThere here h before = tt
bare_refused old mid bare i d OutOfMemory here h before = tt
bare_refused old mid bare i d (Refused r) here h before = stop_more bare_events mid bare i d r (apply_all old (flat_map bare_events bare)) here (stop_first mid (plan_event (bare_plan (get_or bare i d))) [] r h.first) before
bare_refused old mid bare i d _ here h before = absurd h
