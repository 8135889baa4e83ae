-- What is kept for a network's planned destinations.
use Rattle.std.proofs.Common.{◌≡◌, ℕ, zero, suc, ◌<◌, eqb, List, [], ◌∷◌, Option, Some, None, map, refl, sym, ap, ◌∙◌, length, get_or, arith, subst}
use Rattle.std.specs.List.{AllByRecursion}
use Rattle.std.specs.Option.{option_map}
use Rattle.std.proofs.lemmas.Bool.{eqb-true}
use Rattle.std.proofs.lemmas.List.{get_or-map, length-map}
use Rattle.std.proofs.lemmas.Option.{same_Some}
use Rattle.net_items.specs.declared.items.Plan.{Plan}
use Rattle.net_items.specs.declared.lists.Row.{Row}
use Rattle.net_items.specs.Keyed.{IsRising, IsFoundAt, at_key}
use Rattle.net_items.specs.Lookups.{plan_at}
use Rattle.net_items.proofs.KeyedLemmas.{found_here}
use Rattle.net_data.specs.Network.{Network}
use Rattle.net_data.specs.Valid.{IsValid as IsValidNet}
use Rattle.profile.proofs.CertificateLemmas.{find-map}
use Rattle.profile.specs.declared.tables.RowState.{RowState}
use Rattle.profile.specs.Status.{Source, choice}
use Rattle.profile.specs.Whole.{scratch, state_of}
use Rattle.excerpts.specs.Excerpt.{ExcerptValue, IsRight, content_at, content_in, content_of, excerpt_in, excerpt_at, network_source, source_of}
use Rattle.excerpts.specs.Turned.{HasTurned}
use Rattle.excerpts.proofs.ExcerptLemmas.{extract_right}
use Rattle.excerpts.proofs.PlaceLemmas.{found_in_place}
use Rattle.excerpts.proofs.TurnedLemmas.{place_found}
use Rattle.transfer_state.specs.Kept.{KeptValue}
use Rattle.transfer_state.specs.Routing.{ChoiceRow, ChoiceTable, ChoicesValue, IsChosen, RoutingValue, choice_rows, choices_of, kept_table, routed_excerpt, routing_by, settled_choices, settled_routing}
use Rattle.transfer_state.proofs.FollowLemmas.{kept_whole}
use Rattle.transfer_state.proofs.RouteLemmas.{opened_chosen}
use Rattle.net_versions.specs.Versions.{all_choices, excerpts, kept_tables, routing_at, settled_tables}

All-map : {X Y : Type 0} (P : Y → Type 0) (f : X → Y) (xs : List X) → AllByRecursion (λ x. P (f x)) xs → AllByRecursion P (map f xs)
All-map P f [] all = tt
All-map P f (x ∷ xs) all = (all.0, All-map P f xs all.1)

IsRising-map : {X Y : Type 0} (key : Y → ℕ) (f : X → Y) (xs : List X) → IsRising (λ x. key (f x)) xs → IsRising key (map f xs)
IsRising-map key f [] rising = tt
IsRising-map key f (x ∷ xs) rising = (All-map (λ y. key (f x) < key y) f xs rising.0, IsRising-map key f xs rising.1)

-- the destinations of the excerpts rise
pub excerpts_rise : (net : Network) → IsRising (λ (p : Plan). p.dest) net.plans → IsRising (λ (x : ExcerptValue). x.plan.dest) (excerpts net)
excerpts_rise net rising = IsRising-map (λ (x : ExcerptValue). x.plan.dest) (excerpt_in net) net.plans rising

-- the excerpt of a destination is found among them
pub excerpt_found : (net : Network) (dest : ℕ) → at_key (λ (x : ExcerptValue). x.plan.dest) dest (excerpts net) ≡ excerpt_at net dest
excerpt_found net dest = find-map (λ (x : ExcerptValue). eqb x.plan.dest dest) (λ (p : Plan). eqb p.dest dest) (excerpt_in net) (λ p. refl) net.plans

-- the destinations of what is kept rise
pub choices_rise : (net : Network) → IsRising (λ (p : Plan). p.dest) net.plans → IsRising (λ (c : ChoicesValue). c.dest) (all_choices net)
choices_rise net rising = IsRising-map (λ (c : ChoicesValue). c.dest) (λ (p : Plan). settled_choices (excerpt_in net p)) net.plans rising

-- what is kept for a destination stands in its plan's place
pub found_plan : (net : Network) (dest at : ℕ) → IsRising (λ (p : Plan). p.dest) net.plans → IsFoundAt (λ (c : ChoicesValue). c.dest) dest (all_choices net) at → IsFoundAt (λ (p : Plan). p.dest) dest net.plans at
found_plan net dest at rising found =
    let keeps : Plan → ChoicesValue = λ p. settled_choices (excerpt_in net p) in
    let within : at < length net.plans = subst (λ n. at < n) (length-map net.plans keeps) found.in_range in
    found_here (λ (p : Plan). p.dest) dest net.plans at rising within
    (λ d. sym (ap (λ (c : ChoicesValue). c.dest) (get_or-map keeps net.plans at d (keeps d) within)) ∙ found.has_key (keeps d))

-- and its routing is that of the plan in this place
pub routing_found : (net : Network) (dest at : ℕ) → IsFoundAt (λ (p : Plan). p.dest) dest net.plans at → (r : RoutingValue) → ((d : Plan) → r ≡ settled_routing (excerpt_in net (get_or net.plans at d))) → Some r ≡ routing_at net dest
routing_found net dest at found r is =
    ap Some (is r.excerpt.plan) ∙ sym (ap (λ (o : Option Plan). option_map settled_routing (option_map (excerpt_in net) o)) (found.finds r.excerpt.plan))

-- where nothing is kept for a destination, it isn't planned
pub routing_absent : (net : Network) (dest : ℕ) → at_key (λ (c : ChoicesValue). c.dest) dest (all_choices net) ≡ None → None ≡ routing_at net dest
routing_absent net dest absent =
    go (plan_at net.plans dest) (sym (find-map (λ (c : ChoicesValue). eqb c.dest dest) (λ (p : Plan). eqb p.dest dest) (λ (p : Plan). settled_choices (excerpt_in net p)) (λ p. refl) net.plans) ∙ absent)
  where
    go : (o : Option Plan) → option_map (λ (p : Plan). settled_choices (excerpt_in net p)) o ≡ None → None ≡ option_map settled_routing (option_map (excerpt_in net) o)
    go None e = refl
    go (Some p) e = absurd (cc)

-- the choices of rows, kept in their places, are those of the table
rows_kept : (src : Source) (rows : List Row) → choice_rows rows (map (choice src) rows) ≡ map (λ (s : RowState). record { point = s.point; choice = s.choice }) (map (λ row. state_of src row (choice src row)) rows)
rows_kept src [] = refl
rows_kept src (row ∷ rows) = ap (λ (rest : List ChoiceRow). record { point = row.point; choice = choice src row } ∷ rest) (rows_kept src rows)

-- the plan in a place is right
pub right_in_place : (net : Network) → IsValidNet net → (i : ℕ) (d : Plan) → i < length net.plans → IsRight (excerpt_in net (get_or net.plans i d))
right_in_place net v i d within = extract_right net v (get_or net.plans i d).dest (get_or net.plans i d) (found_in_place (λ (p : Plan). p.dest) net.plans i d v.plans_rise within)

table_kept : (x : ExcerptValue) → IsRight x → kept_table (routing_by x (settled_choices x)) ≡ choices_of (scratch (source_of x))
table_kept x right =
    ap (λ (rows : List ChoiceRow). record { dest = x.plan.dest; rows = rows })
    (ap (choice_rows x.plan.rows) (opened_chosen x right (settled_choices x).kept refl) ∙ rows_kept (source_of x) x.plan.rows)

kept_of_plans : (net : Network) (plans : List Plan) → ((i : ℕ) (d : Plan) → i < length plans → IsRight (excerpt_in net (get_or plans i d)))
    → kept_tables net plans (map (λ (p : Plan). settled_choices (excerpt_in net p)) plans) ≡ map (λ (p : Plan). choices_of (scratch (network_source net p))) plans
kept_of_plans net [] right = refl
kept_of_plans net (p ∷ plans) right =
    ap (λ (t : ChoiceTable). t ∷ kept_tables net plans (map (λ (q : Plan). settled_choices (excerpt_in net q)) plans)) (table_kept (excerpt_in net p) (right 0 p (omega arith)))
    ∙ ap (λ (rest : List ChoiceTable). choices_of (scratch (network_source net p)) ∷ rest) (kept_of_plans net plans (λ i d within. right (suc i) d (omega arith)))

-- what is kept for all planned destinations are the choices of the tables from scratch
pub tables_kept : (net : Network) → IsValidNet net → kept_tables net net.plans (all_choices net) ≡ settled_tables net
tables_kept net v = kept_of_plans net net.plans (right_in_place net v)

dests_of_plans : (net : Network) (plans : List Plan) → map (λ (c : ChoicesValue). c.dest) (map (λ (p : Plan). settled_choices (excerpt_in net p)) plans) ≡ map (λ (t : ChoiceTable). t.dest) (map (λ (p : Plan). choices_of (scratch (network_source net p))) plans)
dests_of_plans net [] = refl
dests_of_plans net (p ∷ plans) = ap (λ (rest : List ℕ). p.dest ∷ rest) (dests_of_plans net plans)

-- their destinations are those of the tables
pub dests_kept : (net : Network) → map (λ (c : ChoicesValue). c.dest) (all_choices net) ≡ map (λ (t : ChoiceTable). t.dest) (settled_tables net)
dests_kept net = dests_of_plans net net.plans

-- ---- choices that stay

-- lists that are the same in each place
map_places : {X Y : Type 0} (f g : X → Y) (xs : List X) → ((i : ℕ) (d : X) → i < length xs → f (get_or xs i d) ≡ g (get_or xs i d)) → map f xs ≡ map g xs
map_places f g [] same = refl
map_places {X} {Y} f g (x ∷ xs) same =
    ap (λ (y : Y). y ∷ map f xs) (same 0 x (omega arith)) ∙ ap (λ (ys : List Y). g x ∷ ys) (map_places f g xs (λ i d within. same (suc i) d (omega arith)))

-- in a network in which no set turned the choices towards a destination stay
choices_same : (x y : ExcerptValue) → IsRight x → IsRight y → y.plan ≡ x.plan → HasTurned x.network y.network [] → settled_choices x ≡ settled_choices y
choices_same x y one other plans has =
    let kept : IsChosen y (settled_choices x).kept = kept_whole x y one other [] (ap (λ (p : Plan). p.dest) plans) has (settled_choices x).kept refl [] refl (λ a b ends. absurd (cc)) in
    ap (λ (p : Plan). record { dest = p.dest; kept = (settled_choices x).kept }) (sym plans) ∙ ap (λ (ks : List KeptValue). record { dest = y.plan.dest; kept = ks }) kept

pub choices_stay : (old new : Network) → IsValidNet old → IsValidNet new → HasTurned old new [] → all_choices old ≡ all_choices new
choices_stay old new one other has =
    map_places (λ (p : Plan). settled_choices (excerpt_in old p)) (λ (p : Plan). settled_choices (excerpt_in new p)) old.plans
    (λ i d within.
    choices_same (excerpt_in old (get_or old.plans i d)) (excerpt_in new (get_or old.plans i d)) (right_in_place old one i d within)
    (subst (λ (plans : List Plan). IsRight (excerpt_in new (get_or plans i d))) has.plans (right_in_place new other i d (subst (λ (plans : List Plan). i < length plans) (sym has.plans) within)))
    refl has)
    ∙ ap (map (λ (p : Plan). settled_choices (excerpt_in new p))) (sym has.plans)

-- the content of a destination is that of its excerpt
content_there : (net : Network) (dest : ℕ) → content_at net dest ≡ option_map content_of (excerpt_at net dest)
content_there net dest = go (plan_at net.plans dest)
  where
    go : (o : Option Plan) → option_map (content_in net) o ≡ option_map content_of (option_map (excerpt_in net) o)
    go None = refl
    go (Some p) = refl

-- the routing of a destination is of its excerpt
pub routed_there : (net : Network) (dest : ℕ) → routed_excerpt (routing_at net dest) ≡ excerpt_at net dest
routed_there net dest = go (excerpt_at net dest)
  where
    go : (o : Option ExcerptValue) → routed_excerpt (option_map settled_routing o) ≡ o
    go None = refl
    go (Some x) = refl

-- the routing of a destination that reads the same is of the same content
pub kept_content : (net before : Network) (x : ExcerptValue) (r : RoutingValue) → excerpt_at net x.plan.dest ≡ Some x → content_at net x.plan.dest ≡ content_at before x.plan.dest
    → Some r ≡ routing_at before x.plan.dest → content_of r.excerpt ≡ content_of x
kept_content net before x r here same there =
    let before_content : content_at before x.plan.dest ≡ Some (content_of x) = sym same ∙ content_there net x.plan.dest ∙ ap (option_map content_of) here in
    let routed : option_map content_of (routed_excerpt (Some r)) ≡ content_at before x.plan.dest = ap (λ (o : Option RoutingValue). option_map content_of (routed_excerpt o)) there ∙ ap (option_map content_of) (routed_there before x.plan.dest) ∙ sym (content_there before x.plan.dest) in
    same_Some (content_of r.excerpt) (content_of x) (routed ∙ before_content)

-- the choices of places whose excerpts are all
choices_map : {X : Type 0} (f : X → ExcerptValue) (xs : List X) → map (λ x. settled_choices (f x)) xs ≡ map settled_choices (map f xs)
choices_map f [] = refl
choices_map f (x ∷ xs) = ap (λ (rest : List ChoicesValue). settled_choices (f x) ∷ rest) (choices_map f xs)

pub choices_by : {X : Type 0} (f : X → ExcerptValue) (net : Network) (xs : List X) → map f xs ≡ excerpts net → map (λ x. settled_choices (f x)) xs ≡ all_choices net
choices_by f net xs all = choices_map f xs ∙ ap (map settled_choices) all ∙ sym (choices_map (excerpt_in net) net.plans)

-- the routing of a destination is towards it, and in the network
pub record IsRoutingOf (net : Network) (x : ℕ) (r : RoutingValue) : Type 0 where
  pub dest : r.excerpt.plan.dest ≡ x
  pub network : r.excerpt.network ≡ net

pub routing_of : (net : Network) (x : ℕ) (r : RoutingValue) → routing_at net x ≡ Some r → IsRoutingOf net x r
routing_of net x r e = go (plan_at net.plans x) refl
  where
    go : (o : Option Plan) → plan_at net.plans x ≡ o → IsRoutingOf net x r
    go None none = let bad : None ≡ Some r = rw none at e in cc
    go (Some p) there =
        let is : Some (settled_routing (excerpt_in net p)) ≡ Some r = rw there at e in
        let same : settled_routing (excerpt_in net p) ≡ r = same_Some (settled_routing (excerpt_in net p)) r is in
        subst (IsRoutingOf net x) same (record { dest = eqb-true p.dest x (place_found (λ (q : Plan). eqb q.dest x) net.plans p there).2; network = refl })
