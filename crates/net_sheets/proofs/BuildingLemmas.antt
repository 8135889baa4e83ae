-- Events that are applied one after the other.
use Rattle.std.proofs.Common.{◌≡◌, ℕ, ◌+◌, ◌<◌, List, [], ◌∷◌, ◌++◌, length, map, get_or, take, drop, false, ◌≢◌, Option, Some, None, Result, Ok, Err, refl, ap, sym, ◌∙◌, add-one, drop-cons}
use Rattle.std.specs.List.{flat_map}
use Rattle.net_data.specs.declared.events.Event.{Event}
use Rattle.net_items.specs.declared.items.Point.{Point}
use Rattle.net_data.specs.declared.events.Event.TheVariants as on
use Rattle.net_data.specs.declared.events.Refusal.{Refusal}
use Rattle.net_data.specs.declared.events.Refusal.TheVariants.{OutOfMemory}
use Rattle.net_data.specs.Network.{Network}
use Rattle.net_data.specs.Edits.{refusal_of, changed, apply_all, unless_refused, IsAnswer, Answers}
use Rattle.net_building.proofs.StepLemmas.{apply_append}
use Rattle.net_sheets.specs.Events.{is_named, pair_event, pair_events_after}

-- the events of one more element
pub apply_more : {X : Type 0} (f : X → List Event) (net mid : Network) (xs : List X) (i : ℕ) (d : X) (total : Result Network Refusal) → i < length xs → apply_all net (f (get_or xs i d)) ≡ Ok mid
    → apply_all net (flat_map f (drop i xs)) ≡ total → apply_all mid (flat_map f (drop (i + 1) xs)) ≡ total
apply_more f net mid xs i d total here one before =
    let first : drop i xs ≡ get_or xs i d ∷ drop (i + 1) xs = drop-cons xs i d here ∙ ap (λ n. get_or xs i d ∷ drop n xs) (sym (add-one i)) in
    sym (apply_append net mid (f (get_or xs i d)) (flat_map f (drop (i + 1) xs)) one) ∙ ap (λ ys. apply_all net (flat_map f ys)) (sym first) ∙ before

-- ---- refusals

refusal_of_answer : (o : Option Refusal) (change old new : Network) (e : Refusal) → e ≢ OutOfMemory → IsAnswer o change old (Err e) new → o ≡ Some e
refusal_of_answer (Some r) change old new e other h = let same : ◌≡◌ {A = Result (Unit {0}) Refusal} (Err e) (Err r) = h.0 in cc
refusal_of_answer None change old new e other h = absurd (other h.0)

-- the refusal that an edit was answered with
pub refusal_told : (old new : Network) (event : Event) (e : Refusal) → e ≢ OutOfMemory → Answers old event (Err e) new → refusal_of old event ≡ Some e
refusal_told old new event e other h = refusal_of_answer (refusal_of old event) (changed old event) old new e other h

rest_at : {X : Type 0} (xs : List X) (i : ℕ) (d : X) → i < length xs → drop i xs ≡ get_or xs i d ∷ drop (i + 1) xs
rest_at xs i d here = drop-cons xs i d here ∙ ap (λ n. get_or xs i d ∷ drop n xs) (sym (add-one i))

-- events after one that is refused aren't looked at
pub stop_first : (net : Network) (e : Event) (es : List Event) (r : Refusal) → refusal_of net e ≡ Some r → apply_all net (e ∷ es) ≡ Err r
stop_first net e es r h = ap (λ o. unless_refused o (apply_all (changed net e) es)) h

pub stop_at : {X : Type 0} (f : X → Event) (net : Network) (xs : List X) (i : ℕ) (d : X) (r : Refusal) (total : Result Network Refusal) → i < length xs → refusal_of net (f (get_or xs i d)) ≡ Some r
    → apply_all net (map f (drop i xs)) ≡ total → total ≡ Err r
stop_at f net xs i d r total here h before =
    sym before ∙ ap (λ ys. apply_all net (map f ys)) (rest_at xs i d here) ∙ stop_first net (f (get_or xs i d)) (map f (drop (i + 1) xs)) r h

pub stop_append : (net : Network) (es fs : List Event) (r : Refusal) → apply_all net es ≡ Err r → apply_all net (es ++ fs) ≡ Err r
stop_append net [] fs r h = absurd (cc)
stop_append net (e ∷ es) fs r h = go (refusal_of net e) refl (stop_append (changed net e) es fs r)
  where
    go : (o : Option Refusal) → refusal_of net e ≡ o → (apply_all (changed net e) es ≡ Err r → apply_all (changed net e) (es ++ fs) ≡ Err r) → unless_refused (refusal_of net e) (apply_all (changed net e) (es ++ fs)) ≡ Err r
    go (Some q) t next = rw t (rw t at h)
    go None t next = rw t (next (rw t at h))

-- nor those after one that is refused when it is applied alone
pub stop_each : {X : Type 0} (f : X → Event) (net : Network) (xs : List X) (i : ℕ) (d : X) (r : Refusal) (total : Result Network Refusal) → i < length xs → apply_all net (f (get_or xs i d) ∷ []) ≡ Err r
    → apply_all net (map f (drop i xs)) ≡ total → total ≡ Err r
stop_each f net xs i d r total here h before =
    sym before ∙ ap (λ ys. apply_all net (map f ys)) (rest_at xs i d here) ∙ stop_append net (f (get_or xs i d) ∷ []) (map f (drop (i + 1) xs)) r h

-- nor those after events of which one is refused
pub stop_more : {X : Type 0} (f : X → List Event) (net : Network) (xs : List X) (i : ℕ) (d : X) (r : Refusal) (total : Result Network Refusal) → i < length xs → apply_all net (f (get_or xs i d)) ≡ Err r
    → apply_all net (flat_map f (drop i xs)) ≡ total → total ≡ Err r
stop_more f net xs i d r total here h before =
    sym before ∙ ap (λ ys. apply_all net (flat_map f ys)) (rest_at xs i d here) ∙ stop_append net (f (get_or xs i d)) (flat_map f (drop (i + 1) xs)) r h

-- a pair that is refused
pub stop_pair : (net : Network) (points : List Point) (i : ℕ) (d : Point) (m : ℕ) (r : Refusal) (total : Result Network Refusal) → i < length points → (get_or points i d).mate ≡ Some m
    → is_named (take i points) m (get_or points i d).code ≡ false → refusal_of net (on.Pair (get_or points i d).code m) ≡ Some r
    → apply_all net (pair_events_after (take i points) (drop i points)) ≡ total → total ≡ Err r
stop_pair net points i d m r total here mate fresh h before =
    let p = get_or points i d in
    let told : pair_event (take i points) p ≡ on.Pair p.code m ∷ [] = rw (mate, fresh) refl in
    let later = pair_events_after (take i points ++ p ∷ []) (drop (i + 1) points) in
    sym before ∙ ap (λ ys. apply_all net (pair_events_after (take i points) ys)) (rest_at points i d here) ∙ ap (λ es. apply_all net (es ++ later)) told ∙ stop_first net (on.Pair p.code m) later r h
