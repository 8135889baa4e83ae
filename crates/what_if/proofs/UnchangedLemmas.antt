-- Nothing is told towards a destination that reads the same, or whose choices or statuses stay.
use Rattle.std.proofs.Common.{◌≡◌, ℕ, ◌+◌, eqb, cond, true, false, List, [], ◌∷◌, ◌++◌, ◌&&◌, map, Option, Some, None, Ok, Err, if◌then◌else◌, Bool, refl, sym, ap, ◌∙◌}
use Rattle.std.proofs.lemmas.Bool.{and_parts, eqb-true, eq-eqb, or_left, or_right}
use Rattle.std.proofs.lemmas.List.Folds.{Any-from_list_any, list_any-from_Any}
use Rattle.std.specs.List.{find, flat_map, list_any}
use Rattle.std.specs.Option.{option_map, option_map_or}
use Rattle.std.proofs.lemmas.Option.{same_Some}
use Rattle.std.proofs.lemmas.Simd.{map-map}
use Rattle.net_items.specs.declared.items.Plan.{Plan}
use Rattle.net_items.specs.declared.lists.Row.{Row}
use Rattle.net_items.specs.Lookups.{mate_of, plan_at, row_at}
use Rattle.net_data.specs.declared.events.Event.{Event}
use Rattle.net_data.specs.declared.events.Refusal.{Refusal}
use Rattle.net_data.specs.Edits.{refusal_of, changed, replay}
use Rattle.net_data.specs.Network.{Network}
use Rattle.net_data.specs.Valid.{IsValid as IsValidNet}
use Rattle.route_choice.specs.declared.choices.Choice.{Choice}
use Rattle.route_choice.specs.declared.choices.Far.{Far}
use Rattle.route_choice.specs.declared.choices.Far.TheVariants.{Allowed, Restricted, Prohibited}
use Rattle.profile.specs.declared.tables.RowState.{RowState}
use Rattle.profile.specs.declared.tables.Table.{Table}
use Rattle.profile.specs.Status.{Source, choice}
use Rattle.excerpts.specs.declared.turned.Ends.{Ends}
use Rattle.excerpts.specs.Turned.{HasTurned, has_ends}
use Rattle.transfer_state.specs.Following.{HasMarksOf, rests_on}
use Rattle.transfer_state.specs.Kept.{KeptValue, kept, opened_rows}
use Rattle.transfer_state.specs.Routing.{IsChosen, RoutingValue, statuses_of}
use Rattle.transfer_state.proofs.FollowLemmas.{kept_whole, same_plan}
use Rattle.transfer_state.proofs.RouteLemmas.{opened_chosen}
use Rattle.excerpts.specs.Excerpt.{ExcerptValue, IsRight, source_of, content_in, content_of, content_at, excerpt_in, excerpt_at, leads}
use Rattle.excerpts.proofs.ExcerptLemmas.{extract_right, table_equal}
use Rattle.what_if.specs.declared.changes.Change.{Change}
use Rattle.what_if.specs.Reports.{IsQuiet, Account, apply_from, both, points, choice_of, status_of, is_same, change_between, dests, each_dest, each_point}
use Rattle.what_if.proofs.GatheringLemmas.{choice_is, fused}

-- ---- where nothing is told of a point

module _ {X : Type 0} (tell : Account X) where
  none_at : (old new : Option ExcerptValue) (dest : ℕ) → ((point : ℕ) → tell old new dest point ≡ []) → (ps : List ℕ) → flat_map (tell old new dest) ps ≡ []
  none_at old new dest none [] = refl
  none_at old new dest none (p ∷ ps) = ap (λ (xs : List X). xs ++ flat_map (tell old new dest) ps) (none p) ∙ none_at old new dest none ps

  -- where nothing is told of any point nothing is told
  pub none_told : (old new : Option ExcerptValue) (dest : ℕ) → ((point : ℕ) → tell old new dest point ≡ []) → each_point tell old new dest ≡ []
  none_told old new dest none = none_at old new dest none (both (points old) (points new))

same_as_itself : (status : Option Far) → is_same status status ≡ true
same_as_itself None = refl
same_as_itself (Some Allowed) = refl
same_as_itself (Some Restricted) = refl
same_as_itself (Some Prohibited) = refl

-- no change is told where the status stays
pub no_change : (old new : Option ExcerptValue) (dest point : ℕ) → status_of old point ≡ status_of new point → change_between old new dest point ≡ []
no_change old new dest point same =
    let build : Option Far → Bool → List Change = λ after b. if b then [] else record { point = point; dest = dest; before = status_of old point; after = after } ∷ [] in
    ap (λ (s : Option Far). build s (is_same (status_of old point) s)) (sym same)
    ∙ ap (build (status_of old point)) (same_as_itself (status_of old point))

-- ---- excerpts that read the same

same_reads : (x y : ExcerptValue) → IsRight x → IsRight y → content_of x ≡ content_of y → (point : ℕ) → choice_of (Some x) point ≡ choice_of (Some y) point
same_reads x y one other same point =
    sym (choice_is x point)
    ∙ ap (λ (t : Table). option_map (λ (s : RowState). s.choice) (find (λ (s : RowState). eqb s.point point) t.rows)) (table_equal x y one other same)
    ∙ choice_is y point

-- towards a destination that reads the same in a network the choices stay
pub choices_read : (x : ExcerptValue) → IsRight x → (net : Network) → IsValidNet net → (dest : ℕ) → content_at net dest ≡ Some (content_of x) → (point : ℕ) → choice_of (Some x) point ≡ choice_of (excerpt_at net dest) point
choices_read x right net valid dest same point = go (plan_at net.plans dest) refl same
  where
    go : (o : Option Plan) → plan_at net.plans dest ≡ o → option_map (content_in net) o ≡ Some (content_of x) → choice_of (Some x) point ≡ choice_of (option_map (excerpt_in net) o) point
    go None at e = absurd (cc)
    go (Some plan) at e = same_reads x (excerpt_in net plan) right (extract_right net valid dest plan at) (sym (same_Some (content_in net plan) (content_of x) e)) point

-- ---- routings with the same statuses

first_same : {A : Type 0} (f g : A) (fs gs : List A) → f ∷ fs ≡ g ∷ gs → f ≡ g
first_same f g fs gs e = cc

rest_same : {A : Type 0} (f g : A) (fs gs : List A) → f ∷ fs ≡ g ∷ gs → fs ≡ gs
rest_same f g fs gs e = cc

-- rows of the same points that give the same in their places give the same where one is found
found_same : {A : Type 0} (h k : Row → A) (y : ℕ) (rows others : List Row) → map (λ (row : Row). row.point) rows ≡ map (λ (row : Row). row.point) others → map h rows ≡ map k others
    → option_map h (row_at rows y) ≡ option_map k (row_at others y)
found_same h k y [] [] points e = refl
found_same h k y [] (other ∷ others) points e = absurd (cc)
found_same h k y (row ∷ rows) [] points e = absurd (cc)
found_same {A} h k y (row ∷ rows) (other ∷ others) points e =
    go (eqb row.point y) (first_same (h row) (k other) (map h rows) (map k others) e)
    (found_same h k y rows others (rest_same row.point other.point (map (λ (r : Row). r.point) rows) (map (λ (r : Row). r.point) others) points) (rest_same (h row) (k other) (map h rows) (map k others) e))
    ∙ ap (λ (n : ℕ). option_map k (cond (eqb n y) (Some other) (row_at others y))) (first_same row.point other.point (map (λ (r : Row). r.point) rows) (map (λ (r : Row). r.point) others) points)
  where
    go : (b : Bool) → h row ≡ k other → option_map h (row_at rows y) ≡ option_map k (row_at others y)
        → option_map h (cond b (Some row) (row_at rows y)) ≡ option_map k (cond b (Some other) (row_at others y))
    go true here rest = ap Some here
    go false here rest = rest

-- no change is told of routings with the same statuses
pub alike_quiet : (r s : RoutingValue) → statuses_of s.choices ≡ statuses_of r.choices → IsQuiet change_between r (Some s)
alike_quiet r s same one other points dest point =
    let x : ExcerptValue = r.excerpt in
    let y : ExcerptValue = s.excerpt in
    let status : Choice → Far = λ c. c.status in
    let old : Row → Far = λ row. status (choice (source_of x) row) in
    let new : Row → Far = λ row. status (choice (source_of y) row) in
    let both_same : map old x.plan.rows ≡ map new y.plan.rows
    = sym (ap (λ (q : RoutingValue). statuses_of q.choices) one ∙ map-map status (choice (source_of x)) x.plan.rows) ∙ sym same
    ∙ (ap (λ (q : RoutingValue). statuses_of q.choices) other ∙ map-map status (choice (source_of y)) y.plan.rows) in
    no_change (Some x) (Some y) dest point
    (fused status (choice (source_of x)) (row_at x.plan.rows point) ∙ found_same old new point x.plan.rows y.plan.rows points both_same ∙ sym (fused status (choice (source_of y)) (row_at y.plan.rows point)))

-- ---- routings no row of which rests on a set that turned

-- the excerpt of a destination has its plan
plan_is : (net : Network) (dest : ℕ) (x : ExcerptValue) → excerpt_at net dest ≡ Some x → plan_at net.plans dest ≡ Some x.plan
plan_is net dest x e = sym (back (plan_at net.plans dest)) ∙ ap (option_map (λ (y : ExcerptValue). y.plan)) e
  where
    back : (o : Option Plan) → option_map (λ (y : ExcerptValue). y.plan) (option_map (excerpt_in net) o) ≡ o
    back None = refl
    back (Some plan) = refl

-- also in a network in which only links and sets changed
plan_after : (x : ExcerptValue) (net : Network) (turned : List Ends) (dest : ℕ) → excerpt_at x.network dest ≡ Some x → HasTurned x.network net turned → plan_at net.plans dest ≡ Some x.plan
plan_after x net turned dest planned has = ap (λ (ps : List Plan). plan_at ps dest) has.plans ∙ plan_is x.network dest x planned

-- ends that a list has don't pass a test that none of it passes
none_rests : (p : ℕ → ℕ → Bool) (turned : List Ends) (y z : ℕ) → list_any (λ (ends : Ends). p ends.point ends.other) turned ≡ false → has_ends turned y z ≡ true → p y z ≡ true → ⊥
none_rests p turned y z none has rests =
    let found = Any-from_list_any (λ (ends : Ends). eqb ends.point y && eqb ends.other z) turned has in
    let same = and_parts (eqb found.1.point y) (eqb found.1.other z) found.4 in
    let here : p found.1.point found.1.other ≡ true = rw (eqb-true found.1.point y same.0, eqb-true found.1.other z same.1) rests in
    let some : list_any (λ (ends : Ends). p ends.point ends.other) turned ≡ true = list_any-from_Any (λ (ends : Ends). p ends.point ends.other) turned (found.0, found.1, found.2, found.3, here) in
    cc

-- what is kept opens to the same choices, where the mates are the same
opened_same : (src other : Source) → src.mate_of ≡ other.mate_of → (rows : List Row) (ks : List KeptValue) → opened_rows src rows ks ≡ opened_rows other rows ks
opened_same src other mates [] ks = refl
opened_same src other mates (row ∷ rows) [] = refl
opened_same src other mates (row ∷ rows) (k ∷ ks) = let rest = opened_same src other mates rows ks in rw (mates, rest) refl

module _ (old x : ExcerptValue) (was : IsRight old) (right : IsRight x) (turned : List Ends) (dest : x.plan.dest ≡ old.plan.dest) (has : HasTurned old.network x.network turned)
    (none : list_any (λ (ends : Ends). rests_on old ends.point ends.other) turned ≡ false) where
  no_marks : (y z : ℕ) → has_ends turned y z ≡ true → HasMarksOf x [] y z
  no_marks y z ends = record {
    via = λ leading.
        let there : leads old.plan.rows y z ≡ true = sym (ap (λ (p : Plan). leads p.rows y z) (same_plan old x was right turned dest has)) ∙ leading in
        absurd (none_rests (rests_on old) turned y z none ends (or_left (leads old.plan.rows y z) (option_map_or (λ m. eqb m z) (mate_of old.network.points y) false) there));
    mate = λ paired.
        let there : mate_of old.network.points y ≡ Some z = rw (← has.points) paired in
        let yes : option_map_or (λ m. eqb m z) (mate_of old.network.points y) false ≡ true = rw there (eq-eqb z z refl) in
        absurd (none_rests (rests_on old) turned y z none ends (or_right (leads old.plan.rows y z) (option_map_or (λ m. eqb m z) (mate_of old.network.points y) false) yes));
  }

  -- their choices stay
  choices_stay : map (choice (source_of x)) x.plan.rows ≡ map (choice (source_of old)) old.plan.rows
  choices_stay =
      let choices : List KeptValue = map (λ row. kept (choice (source_of old) row)) old.plan.rows in
      let now : IsChosen x choices = kept_whole old x was right turned dest has choices refl [] refl no_marks in
      sym (opened_chosen x right choices now)
      ∙ ap (λ (p : Plan). opened_rows (source_of x) p.rows choices) (same_plan old x was right turned dest has)
      ∙ opened_same (source_of x) (source_of old) (ap mate_of has.points) old.plan.rows choices
      ∙ opened_chosen old was choices refl

-- so they do towards a destination no row of which rests on a set that turned
pub choices_rest : (x y : ExcerptValue) → IsRight x → IsRight y → (turned : List Ends) → y.plan.dest ≡ x.plan.dest → HasTurned x.network y.network turned
    → list_any (λ (ends : Ends). rests_on x ends.point ends.other) turned ≡ false → (point : ℕ) → choice_of (Some x) point ≡ choice_of (Some y) point
choices_rest x y right other turned dest has none point =
    found_same (choice (source_of x)) (choice (source_of y)) point x.plan.rows y.plan.rows
    (ap (λ (p : Plan). map (λ (row : Row). row.point) p.rows) (sym (same_plan x y right other turned dest has)))
    (sym (choices_stay x y right other turned dest has none))

-- the same in a network
pub choices_kept : (x : ExcerptValue) (net : Network) (turned : List Ends) (dest : ℕ) → IsRight x → IsValidNet net → excerpt_at x.network dest ≡ Some x → HasTurned x.network net turned
    → list_any (λ (ends : Ends). rests_on x ends.point ends.other) turned ≡ false → (point : ℕ) → choice_of (Some x) point ≡ choice_of (excerpt_at net dest) point
choices_kept x net turned dest right valid planned has none point =
    let there : plan_at net.plans dest ≡ Some x.plan = plan_after x net turned dest planned has in
    choices_rest x (excerpt_in net x.plan) right (extract_right net valid dest x.plan there) turned refl has none point
    ∙ ap (λ (o : Option Plan). choice_of (option_map (excerpt_in net) o) point) (sym there)

-- the network that events make, none of which is refused
pub made_by : (place : ℕ) (net new : Network) (events : List Event) → apply_from place net events ≡ Ok new → new ≡ replay net events
made_by place net new [] e = cc
made_by place net new (event ∷ events) e = go (refusal_of net event) refl (made_by (place + 1) (changed net event) new events)
  where
    go : (o : Option Refusal) → refusal_of net event ≡ o → (apply_from (place + 1) (changed net event) events ≡ Ok new → new ≡ replay (changed net event) events) → new ≡ replay (changed net event) events
    go None none rec = rec (rw none at e)
    go (Some refusal) some rec = let no : Err (record { place = place; refusal = refusal }) ≡ Ok new = rw some at e in cc

-- ---- where no set turned

each_none : {X : Type 0} (f : ℕ → List X) (xs : List ℕ) → ((x : ℕ) → f x ≡ []) → flat_map f xs ≡ []
each_none f [] none = refl
each_none f (x ∷ xs) none = let here = none x in rw here (each_none f xs none)

pub nothing_told : {X : Type 0} (tell : Account X) → ((old new : Option ExcerptValue) (dest point : ℕ) → choice_of old point ≡ choice_of new point → tell old new dest point ≡ [])
    → (old new : Network) → IsValidNet old → IsValidNet new → HasTurned old new [] → each_dest tell old new ≡ []
nothing_told tell stays old new valid valid_new has =
    each_none (λ x. each_point tell (excerpt_at old x) (excerpt_at new x) x) (both (dests old) (dests new))
    (λ x. none_told tell (excerpt_at old x) (excerpt_at new x) x (λ point. stays (excerpt_at old x) (excerpt_at new x) x point (same x point (plan_at old.plans x) refl)))
  where
    same : (x point : ℕ) (o : Option Plan) → plan_at old.plans x ≡ o → choice_of (excerpt_at old x) point ≡ choice_of (excerpt_at new x) point
    same x point None e =
        let gone : plan_at new.plans x ≡ None = ap (λ (plans : List Plan). plan_at plans x) has.plans ∙ e in
        rw (e, gone) refl
    same x point (Some plan) e =
        let there : excerpt_at old x ≡ Some (excerpt_in old plan) = ap (option_map (excerpt_in old)) e in
        ap (λ (o : Option ExcerptValue). choice_of o point) there
        ∙ choices_kept (excerpt_in old plan) new [] x (extract_right old valid x plan e) valid_new there has refl point
