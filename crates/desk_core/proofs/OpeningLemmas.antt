-- The opening of a target: the destinations that wait, and the places of all.
use Rattle.std.proofs.Common.{◌≡◌, ℕ, ◌+◌, ◌<◌, Bool, true, false, ◌||◌, cond, eqb, List, [], ◌∷◌, ◌++◌, Option, Some, None, is_some, Ok, Err, map, take, get_or, refl, sym, ap, ◌∙◌, subst, length}
use Rattle.std.specs.Prelude.{filter}
use Rattle.std.specs.List.{AllByRecursion}
use Rattle.std.specs.Option.{option_map}
use Rattle.std.proofs.lemmas.Bool.{eq-eqb, eqb-true}
use Rattle.std.proofs.lemmas.List.{get_or-map, map-append}
use Rattle.std.proofs.lemmas.List.Elements.{filter-append}
use Rattle.plan_rows.proofs.SeenLemmas.{take_push}
use Rattle.net_items.specs.declared.items.Plan.{Plan}
use Rattle.net_items.specs.declared.items.Point.{Point}
use Rattle.net_items.specs.Keyed.{IsRising}
use Rattle.net_items.specs.Lookups.{has_point, plan_at}
use Rattle.net_items.proofs.KeyedLemmas.{All-then}
use Rattle.net_data.specs.Network.{Network}
use Rattle.net_data.specs.Valid.{IsValid, IsRightPlan}
use Rattle.excerpts.specs.Excerpt.{ExcerptValue, content_at, excerpt_in}
use Rattle.transfer_state.specs.Routing.{RoutingSlotValue}
use Rattle.transfer_state.proofs.SweepLemmas.{at_index}
use Rattle.net_versions.specs.Versions.{AreKept}
use Rattle.dirty_sets.specs.Bits.{is_marked}
use Rattle.dirty_sets.specs.Touch.{is_planned}
use Rattle.dirty_sets.specs.Marks.{Marked}
use Rattle.dirty_sets.specs.Waiting.{Task, all_waiting, waiting, waiting_task}
use Rattle.plan_rows.specs.Causes.{when, first}
use Rattle.work_units.specs.declared.replies.Opened.{Opened}
use Rattle.work_units.specs.declared.replies.Refusal.TheVariants.{Busy, Nothing, OutOfMemory}
use Rattle.desk_core.specs.Desk.{DeskValue, OpenTarget, accepted, to_settle, touched_by}
use Rattle.desk_core.specs.Steps.{IsReply, Opens, with_target}
use Rattle.desk_core.specs.Inside.{IsInside}
use Rattle.desk_core.specs.Targets.{AreFilled, IsFilled, IsSlotFor, is_task, routing_slot_of}

-- ---- lists

-- one more is told
pub filter_map-next : {X Y : Type 0} (p : Y → Bool) (f : X → Y) (xs : List X) (i : ℕ) (x : X) → i < length xs → x ≡ get_or xs i x → filter p (map f (take (i + 1) xs)) ≡ filter p (map f (take i xs)) ++ cond (p (f x)) (f x ∷ []) []
filter_map-next {X} p f xs i x low is =
    ap (λ (l : List X). filter p (map f l)) (take_push xs i x x low is)
    ∙ ap (filter p) (map-append f (take i xs) (x ∷ []))
    ∙ filter-append p (map f (take i xs)) (f x ∷ [])

All-filter : {X : Type 0} (P : X → Type 0) (p : X → Bool) (xs : List X) → AllByRecursion P xs → AllByRecursion P (filter p xs)
All-filter P p [] all = tt
All-filter P p (x ∷ xs) all = go (p x) refl (All-filter P p xs all.1)
  where
    go : (b : Bool) → p x ≡ b → AllByRecursion P (filter p xs) → AllByRecursion P (filter p (x ∷ xs))
    go true e rec = rw e (all.0, rec)
    go false e rec = rw e rec

IsRising-filter : {X : Type 0} (key : X → ℕ) (p : X → Bool) (xs : List X) → IsRising key xs → IsRising key (filter p xs)
IsRising-filter key p [] up = tt
IsRising-filter key p (x ∷ xs) up = go (p x) refl (IsRising-filter key p xs up.1)
  where
    go : (b : Bool) → p x ≡ b → IsRising key (filter p xs) → IsRising key (filter p (x ∷ xs))
    go true e rec = rw e (All-filter (λ y. key x < key y) p xs up.0, rec)
    go false e rec = rw e rec

All-map : {X Y : Type 0} (P : Y → Type 0) (f : X → Y) (xs : List X) → AllByRecursion (λ x. P (f x)) xs → AllByRecursion P (map f xs)
All-map P f [] all = tt
All-map P f (x ∷ xs) all = (all.0, All-map P f xs all.1)

IsRising-map : {X Y : Type 0} (key : Y → ℕ) (f : X → Y) (xs : List X) → IsRising (λ x. key (f x)) xs → IsRising key (map f xs)
IsRising-map key f [] up = tt
IsRising-map key f (x ∷ xs) up = (All-map (λ y. key (f x) < key y) f xs up.0, IsRising-map key f xs up.1)

abbrev dests : List Plan → List ℕ
dests plans = map (λ (p : Plan). p.dest) plans

-- the touched destinations rise
pub touched_rise : (net : Network) (touched : ℕ → Bool) → IsRising (λ (p : Plan). p.dest) net.plans → IsRising (λ x. x) (filter touched (dests net.plans))
touched_rise net touched up = IsRising-filter (λ x. x) touched (dests net.plans) (IsRising-map (λ x. x) (λ (p : Plan). p.dest) net.plans up)

-- all that wait are waiting
pub waiting_all : (xs : List ℕ) → waiting (all_waiting xs) ≡ xs
waiting_all [] = refl
waiting_all (x ∷ xs) = ap (λ ys. x ∷ ys) (waiting_all xs)

-- ---- a place

pub slot_is : (net : Network) (plan : Plan) (settled : Bool) (slot : RoutingSlotValue) → plan_at net.plans plan.dest ≡ Some plan → IsSlotFor net plan.dest settled slot → slot ≡ record { excerpt = excerpt_in net plan; settled = settled }
slot_is net plan settled slot at is =
    let here : Some (excerpt_in net plan) ≡ Some slot.excerpt = sym (ap (option_map (excerpt_in net)) at) ∙ is.0 in
    let same : excerpt_in net plan ≡ slot.excerpt = cc in
    ap (λ (x : ExcerptValue). record { excerpt = x; settled = slot.settled }) (sym same) ∙ ap (λ b. record { excerpt = excerpt_in net plan; settled = b }) is.1

pub planned_is : (net : Network) (plan : Plan) (x : ℕ) → plan_at net.plans x ≡ Some plan → is_planned net x ≡ true
planned_is net plan x at = ap is_some at

-- ---- all places

or_right : (a b : Bool) → b ≡ true → (a || b) ≡ true
or_right true b e = refl
or_right false b e = e

-- the touched of some destinations wait
touched_wait : (touched : ℕ → Bool) (xs : List ℕ) → AllByRecursion (λ x. touched x ≡ true → is_task (all_waiting (filter touched xs)) x ≡ true) xs
touched_wait touched [] = tt
touched_wait touched (x ∷ xs) = go (touched x) refl (touched_wait touched xs)
  where
    Wait : List ℕ → Type 0
    Wait fs = AllByRecursion (λ y. touched y ≡ true → is_task (all_waiting fs) y ≡ true) (x ∷ xs)

    go : (b : Bool) → touched x ≡ b → AllByRecursion (λ y. touched y ≡ true → is_task (all_waiting (filter touched xs)) y ≡ true) xs → Wait (filter touched (x ∷ xs))
    go true e rec =
        let is : filter touched (x ∷ xs) ≡ x ∷ filter touched xs = rw e refl in
        subst Wait (sym is) (
          (λ t. rw (eq-eqb x x refl) refl),
          All-then (λ (y : ℕ). y) (λ y. touched y ≡ true → is_task (all_waiting (filter touched xs)) y ≡ true) (λ y. touched y ≡ true → (eqb x y || is_task (all_waiting (filter touched xs)) y) ≡ true)
              (λ y h t. or_right (eqb x y) _ (h t)) xs rec,
        )
    go false e rec =
        let is : filter touched (x ∷ xs) ≡ filter touched xs = rw e refl in
        subst Wait (sym is) ((λ t. absurd (let f : false ≡ true = sym e ∙ t in cc)), rec)

places_filled : (net : Network) (touched : ℕ → Bool) (tasks : List Task) (plans : List Plan) → AllByRecursion (λ x. touched x ≡ true → is_task tasks x ≡ true) (dests plans) → AllByRecursion (IsFilled tasks) (map (routing_slot_of net touched) plans)
places_filled net touched tasks [] all = tt
places_filled net touched tasks (p ∷ ps) all = (go (touched p.dest) refl, places_filled net touched tasks ps all.1)
  where
    go : (b : Bool) → touched p.dest ≡ b → IsFilled tasks (routing_slot_of net touched p)
    go true e = rw e (all.0 e)
    go false e = rw e refl

-- one more plan in front hides none
still_found : (p : Plan) (ps : List Plan) (x : ℕ) → is_some (plan_at ps x) ≡ true → is_some (plan_at (p ∷ ps) x) ≡ true
still_found p ps x there = go (eqb p.dest x) refl
  where
    go : (b : Bool) → eqb p.dest x ≡ b → is_some (plan_at (p ∷ ps) x) ≡ true
    go true e = rw e refl
    go false e = rw e there

-- each plan of a list is found for its destination
plans_found : (ps : List Plan) → AllByRecursion (λ (p : Plan). is_some (plan_at ps p.dest) ≡ true) ps
plans_found [] = tt
plans_found (p ∷ ps) = (
  rw (eq-eqb p.dest p.dest refl) refl,
  All-then (λ (q : Plan). q.dest) (λ q. is_some (plan_at ps q.dest) ≡ true) (λ q. is_some (plan_at (p ∷ ps) q.dest) ≡ true) (λ q h. still_found p ps q.dest h) ps (plans_found ps),
)

excerpts_of : (net : Network) (touched : ℕ → Bool) (plans : List Plan) → map (λ (s : RoutingSlotValue). s.excerpt) (map (routing_slot_of net touched) plans) ≡ map (excerpt_in net) plans
excerpts_of net touched [] = refl
excerpts_of net touched (p ∷ ps) = ap (λ xs. excerpt_in net p ∷ xs) (excerpts_of net touched ps)

-- the touched destinations are planned
pub planned_dests : (net : Network) (touched : ℕ → Bool) → AllByRecursion (λ x. is_planned net x ≡ true) (filter touched (dests net.plans))
planned_dests net touched = All-filter (λ x. is_planned net x ≡ true) touched (dests net.plans) (All-map (λ x. is_planned net x ≡ true) (λ (p : Plan). p.dest) net.plans (plans_found net.plans))

-- the places of a target, of which the touched wait
pub opened_filled : (net : Network) (touched : ℕ → Bool) → AreFilled net (all_waiting (filter touched (dests net.plans))) (map (routing_slot_of net touched) net.plans)
opened_filled net touched = record {
  all = excerpts_of net touched net.plans;
  filled = places_filled net touched _ net.plans (touched_wait touched (dests net.plans));
  planned = All-map (λ (t : Task). is_planned net t.dest ≡ true) waiting_task (filter touched (dests net.plans)) (planned_dests net touched);
}

-- ---- what waits

coded : (points : List Point) (x : ℕ) → AllByRecursion (λ (p : Point). p.code < 16384) points → has_point points x ≡ true → x < 16384
coded [] x all there = absurd (cc)
coded (p ∷ ps) x all there = go (eqb p.code x) refl (coded ps x all.1)
  where
    go : (b : Bool) → eqb p.code x ≡ b → (has_point ps x ≡ true → x < 16384) → x < 16384
    go true e rec = subst (λ y. y < 16384) (eqb-true p.code x e) all.0
    go false e rec = rec (rw e at there)

filter-same : (p q : ℕ → Bool) (xs : List ℕ) → AllByRecursion (λ x. x < 16384) xs → ((x : ℕ) → x < 16384 → p x ≡ q x) → filter p xs ≡ filter q xs
filter-same p q [] all same = refl
filter-same p q (x ∷ xs) all same = ap (λ b. cond b (x ∷ filter p xs) (filter p xs)) (same x all.0) ∙ ap (λ ys. cond (q x) (x ∷ ys) ys) (filter-same p q xs all.1 same)

-- the planned destinations are codes
dests_small : (net : Network) → IsValid net → AllByRecursion (λ (p : Plan). p.dest < 16384) net.plans
dests_small net valid = All-then (λ (p : Plan). p.dest) (IsRightPlan net.points net.sets) (λ p. p.dest < 16384) (λ p right. coded net.points p.dest valid.codes_small right.is_there) net.plans valid.plans_right

-- the tables of plans that weren't touched read the same
pub places_kept : (net before : Network) → IsValid net → (touched : ℕ → Bool) → ((x : ℕ) → x < 16384 → touched x ≡ false → content_at net x ≡ content_at before x) → AreKept net before (map (λ (p : Plan). touched p.dest) net.plans)
places_kept net before valid touched kept i d low untouched =
    let here : touched (get_or net.plans i d).dest ≡ false = sym (get_or-map (λ (p : Plan). touched p.dest) net.plans i d true low) ∙ untouched in
    kept (get_or net.plans i d).dest (at_index (λ (p : Plan). p.dest < 16384) net.plans i d (dests_small net valid) low) here

-- the destinations that were touched are those to settle
pub to_settle_is : (s : DeskValue) (latest : Network) (marked : Marked) → IsInside s latest marked None → IsValid latest → filter marked.touched (dests latest.plans) ≡ to_settle s
to_settle_is s latest marked i valid =
    filter-same marked.touched (touched_by s.published.network s.pending) (dests latest.plans)
    (All-map (λ x. x < 16384) (λ (p : Plan). p.dest) latest.plans (dests_small latest valid))
    (λ x low. i.since x low)
    ∙ ap (λ (n : Network). filter (touched_by s.published.network s.pending) (dests n.plans)) i.is_now

-- the same of the destinations that are marked in a table
pub to_settle_marked : (s : DeskValue) (latest : Network) (marked : Marked) (bits : List Bool) → IsInside s latest marked None → IsValid latest → ((x : ℕ) → is_marked bits x ≡ marked.touched x) → filter (is_marked bits) (dests latest.plans) ≡ to_settle s
to_settle_marked s latest marked bits i valid same =
    filter_each (is_marked bits) marked.touched same (dests latest.plans) ∙ to_settle_is s latest marked i valid
  where
    filter_each : (p q : ℕ → Bool) → ((x : ℕ) → p x ≡ q x) → (xs : List ℕ) → filter p xs ≡ filter q xs
    filter_each p q each [] = refl
    filter_each p q each (x ∷ xs) = ap (λ b. cond b (x ∷ filter p xs) (filter p xs)) (each x) ∙ ap (λ ys. cond (q x) (x ∷ ys) ys) (filter_each p q each xs)

-- what an opening answers, if it isn't refused
pub opens_is : (s new : DeskValue) (answer : Opened) → s.target ≡ None → eqb (length s.pending) 0 ≡ false → answer ≡ record { target = accepted s; waiting = length (to_settle s) } → new ≡ with_target s → Opens s (Ok answer) new
opens_is s new answer none some is left =
    subst (λ (o : Option OpenTarget). IsReply (first (when (is_some o) Busy ∷ when (eqb (length s.pending) 0) Nothing ∷ [])) Change s (Ok answer) new) (sym none)
    (subst (λ b. IsReply (first (when b Nothing ∷ [])) Change s (Ok answer) new) (sym some) (is, left))
  where
    Change : Opened → DeskValue → Type 0
    Change reply after = (reply ≡ record { target = accepted s; waiting = length (to_settle s) }) × (after ≡ with_target s)

-- an opening that runs out of memory
pub opens_not : (s : DeskValue) → s.target ≡ None → eqb (length s.pending) 0 ≡ false → Opens s (Err OutOfMemory) s
opens_not s none some =
    subst (λ (o : Option OpenTarget). IsReply (first (when (is_some o) Busy ∷ when (eqb (length s.pending) 0) Nothing ∷ [])) Change s (Err OutOfMemory) s) (sym none)
    (subst (λ b. IsReply (first (when b Nothing ∷ [])) Change s (Err OutOfMemory) s) (sym some) (refl, refl))
  where
    Change : Opened → DeskValue → Type 0
    Change reply after = (reply ≡ record { target = accepted s; waiting = length (to_settle s) }) × (after ≡ with_target s)

pub is_none : {X : Type 0} (o : Option X) → is_some o ≡ false → o ≡ None
is_none None e = refl
is_none (Some x) e = absurd (let f : true ≡ false = e in cc)
