-- What the texts of tables say, put together.
use Rattle.std.proofs.Common.{◌≡◌, ℕ, ◌-◌, Bool, Option, Some, slice_get, List, [], ◌∷◌, ◌++◌, length, map, take, drop, Result, Ok, Err, arith, ap, sym, ◌∙◌, subst, append_assoc}
use Rattle.std.specs.List.{All, flat_map}
use Rattle.std.specs.Result.{OnOk}
use Rattle.csv.specs.Records.{Row, fields_of}
use Rattle.net_items.specs.declared.items.Point.{Point}
use Rattle.net_items.specs.declared.items.LinkSet.{LinkSet}
use Rattle.net_data.specs.Network.{Network}
use Rattle.net_data.specs.Edits.{apply_all}
use Rattle.net_building.specs.Building.{point_event, set_events, plan_event}
use Rattle.net_sheets.specs.declared.routes.Route.{Route}
use Rattle.net_sheets.specs.Tables.{Fields, points_header, sets_header, routes_header}
use Rattle.net_sheets.specs.Records.{IsTable}
use Rattle.net_sheets.specs.Values.{Read, point_of, set_of, route_of, all_read, Holds}
use Rattle.net_sheets.specs.Events.{IsRankedPlan, pair_events_after, empty_net, bare_events, AddsPoints, AddsSets, AddsPlans, AddsRoutes, AddsAll, IsRankedBy, Says}
use Rattle.net_sheets.specs.declared.about.Entry.{Entry}
use Rattle.net_sheets.specs.declared.about.Entry.TheVariants as entry
use Rattle.plan_ranks.specs.declared.given.RowRank.{RowRank}
use Rattle.net_sheets.specs.About.{entries_of, IsAbout}
use Rattle.std.proofs.lemmas.List.{take-append-drop}
use Rattle.std.proofs.lemmas.Option.{slice_get_within, get_or_from_slice_get}
use Rattle.net_building.proofs.StepLemmas.{apply_append}
use Rattle.net_sheets.proofs.PlanLemmas.{rest_from}

pub where_ok : {A B : Type 0} (r : Result A B) (P Q : Type 0) → (P → Q) → OnOk r P → OnOk r Q
where_ok (Ok x) P Q f p = f p
where_ok (Err e) P Q f p = tt

-- what is read of the records after the header
pub values_told : {A : Type 0} (of : Fields → Read A) (names header : Fields) (text : List ℕ) (rows told : List Row) (answer : Read (List A)) → told ≡ rows → names ≡ header → IsTable names text (map fields_of (drop 1 rows))
    → all_read of (map fields_of (take (length told - 1) (drop 1 told))) ≡ answer → Holds of header text answer
values_told of names header text rows told answer e h table read =
    record {
      records = map fields_of (drop 1 rows);
      table = subst (λ fs. IsTable fs text (map fields_of (drop 1 rows))) h table;
      answered = ap (λ rs. all_read of (map fields_of (drop 1 rs))) (sym e) ∙ ap (λ rs. all_read of (map fields_of rs)) (sym (rest_from 1 told)) ∙ read;
    }

-- points and then their pairs
pub points_added : (old mid new : Network) (text : List ℕ) (points added paired : List Point) → Holds point_of points_header text (Ok points) → added ≡ points → paired ≡ points
    → apply_all old (map point_event added) ≡ Ok mid → apply_all mid (pair_events_after [] paired) ≡ Ok new → AddsPoints old text new
points_added old mid new text points added paired told e1 e2 first second =
    record {
      points = points;
      told = told;
      built = record { all = apply_append old mid (map point_event points) (pair_events_after [] points) (ap (λ ps. apply_all old (map point_event ps)) (sym e1) ∙ first) ∙ ap (λ ps. apply_all mid (pair_events_after [] ps)) (sym e2) ∙ second };
    }

pub sets_added : (old new : Network) (text : List ℕ) (sets added : List LinkSet) → Holds set_of sets_header text (Ok sets) → added ≡ sets → apply_all old (flat_map set_events added) ≡ Ok new → AddsSets old text new
sets_added old new text sets added told e all = record { sets = sets; told = told; built = record { all = ap (λ ss. apply_all old (flat_map set_events ss)) (sym e) ∙ all } }

pub routes_added : (old new : Network) (bare text : List ℕ) (routes added : List Route) → Holds route_of routes_header text (Ok routes) → added ≡ routes → AddsPlans old bare added new → AddsRoutes old bare text new
routes_added old new bare text routes added told e all = record { routes = routes; told = told; built = subst (λ rs. AddsPlans old bare rs new) e all }

-- all tables one after the other
pub says_all : (network : Option (List ℕ)) (points sets routes : List ℕ) (ni : ℕ) (tfr : Bool) (bare : List ℕ) (ranks : List RowRank) (start least net : Network) → IsAbout network ni tfr bare ranks → start ≡ empty_net ni tfr
    → AddsAll start points sets bare routes least → IsRankedBy least ranks net → Says network points sets routes net
says_all network points sets routes ni tfr bare ranks start least net about e all given =
    let a = all.points_added in
    let b = all.sets_added in
    let c = all.routes_added in
    let plans = c.built.plans in
    let others = flat_map bare_events bare ++ map plan_event plans in
    let last : apply_all all.two others ≡ Ok least = apply_append all.two all.three (flat_map bare_events bare) (map plan_event plans) all.bare_added.built.all ∙ c.built.built.all in
    let later : apply_all all.one (flat_map set_events b.sets ++ others) ≡ Ok least = apply_append all.one all.two (flat_map set_events b.sets) others b.built.all ∙ last in
    let pairs : apply_all start ((map point_event a.points ++ pair_events_after [] a.points) ++ (flat_map set_events b.sets ++ others)) ≡ Ok least =
    apply_append start all.one (map point_event a.points ++ pair_events_after [] a.points) (flat_map set_events b.sets ++ others) a.built.all ∙ later in
    record {
      ni = ni;
      tfr = tfr;
      bare = bare;
      ranks = ranks;
      points = a.points;
      sets = b.sets;
      plans = plans;
      least = least;
      network_told = about;
      points_told = a.told;
      sets_told = b.told;
      routes_told = subst (λ rs. Holds route_of routes_header routes (Ok rs)) (sym c.built.told) c.told;
      plans_apart = c.built.apart;
      plans_ranked = subst (λ ps. All (IsRankedPlan ps) plans) (sym c.built.kept) c.built.ranked;
      built = ap (apply_all (empty_net ni tfr)) (sym (append_assoc (map point_event a.points) (pair_events_after [] a.points) (flat_map set_events b.sets ++ others)))
          ∙ ap (λ n. apply_all n ((map point_event a.points ++ pair_events_after [] a.points) ++ (flat_map set_events b.sets ++ others))) (sym e) ∙ pairs;
      ranked = given;
    }

entries_first : (entries others : List Entry) (ni : ℕ) (tfr : Bool) → slice_get entries 0 ≡ Some (entry.Ni ni) → slice_get entries 1 ≡ Some (entry.Tfr tfr) → others ≡ drop 2 entries → entry.Ni ni ∷ entry.Tfr tfr ∷ others ≡ entries
entries_first [] others ni tfr a b c = let here = slice_get_within {A = Entry} [] 0 (entry.Ni ni) a in absurd (omega arith)
entries_first (x ∷ []) others ni tfr a b c = let here = slice_get_within (x ∷ []) 1 (entry.Tfr tfr) b in absurd (omega arith)
entries_first (x ∷ y ∷ es) others ni tfr a b c =
    let first : x ≡ entry.Ni ni = get_or_from_slice_get (x ∷ y ∷ es) 0 (entry.Ni ni) x a in
    let second : y ≡ entry.Tfr tfr = get_or_from_slice_get (x ∷ y ∷ es) 1 (entry.Tfr tfr) x b in
    let rest : others ≡ es = c in
    cc

-- the keys that say a network indicator, an option, plans without rows and ranks
pub entries_made : (entries others : List Entry) (ni n : ℕ) (tfr : Bool) (bare : List ℕ) (ranks : List RowRank) → slice_get entries 0 ≡ Some (entry.Ni ni) → slice_get entries 1 ≡ Some (entry.Tfr tfr) → others ≡ drop 2 entries
    → map entry.Bare bare ≡ take n others → map entry.Rank ranks ≡ drop n others → entries_of ni tfr bare ranks ≡ entries
entries_made entries others ni n tfr bare ranks a b c front back =
    ap (λ es. entry.Ni ni ∷ entry.Tfr tfr ∷ es) (rw (front, back) (take-append-drop n others)) ∙ entries_first entries others ni tfr a b c
