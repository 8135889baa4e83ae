-- The entries of a waiting list: how they are found, marked, moved and put in.
use Rattle.std.proofs.Common.{⊎_elim, ◌≡◌, ℕ, zero, suc, ◌<◌, ◌≤◌, Bool, true, false, not, eqb, Option, Some, None, List, [], ◌∷◌, ◌++◌, length, take, drop, get_or, map, slice_get, position, reverse, cond, refl, ap, sym, ◌∙◌, subst, arith}
use Rattle.std.specs.Prelude.{filter, insert, remove}
use Rattle.std.specs.List.{AllByRecursion, IsDistinct, list_any}
use Rattle.std.specs.Map.{keys_of, lookup}
use Rattle.std.specs.Option.{option_map, option_map_or}
use Rattle.std.proofs.lemmas.Bool.{cases_Bool, cond_both, eqb-true, eqb-false, eq-eqb, ne_eqb}
use Rattle.std.proofs.lemmas.List.{map-append, reverse-reverse}
use mathlib.Core.List.{reverse-cons}
use Rattle.std.proofs.lemmas.List.Quantifiers.{position-Some}
use Rattle.std.proofs.lemmas.Option.{slice_get-map}
use Rattle.net_items.specs.Keyed.{IsRising}
use Rattle.net_items.proofs.ListLemmas.{map_insert, map_remove}
use Rattle.indexmap.specs.IndexMap.{insert_entry, move_index, set_value_at}
use Rattle.indexmap.proofs.MapLemmas.{Missing-position}
use Rattle.dirty_sets.specs.Waiting.{Task, all_waiting, is_out, waiting_task, without_task}
use Rattle.dirty_sets.specs.Entries.{task_of, tasks_of, marked, IsAt}
use Rattle.dirty_sets.proofs.WaitingTurnLemmas.{map_turned}

-- the entries of those that wait
abbrev pub waiting_entries : List ℕ → List (ℕ × Bool)
waiting_entries dests = map (λ x. (x, false)) dests

flip : (a b : ℕ) → eqb b a ≡ false → eqb a b ≡ false
flip a b e = ne_eqb a b (λ s. eqb-false b a e (sym s))

-- a task of another destination says nothing of this one
is_out-other : (x : ℕ) (t : Task) (ts : List Task) → eqb t.dest x ≡ false → is_out (t ∷ ts) x ≡ is_out ts x
is_out-other x t ts other = go t.is_out
  where
    go : (b : Bool) → list_any (λ y. eqb y x) (map (λ (t : Task). t.dest) (cond b (t ∷ filter (λ (t : Task). t.is_out) ts) (filter (λ (t : Task). t.is_out) ts))) ≡ is_out ts x
    go true = rw other refl
    go false = refl

-- a task of the destination says all, if no other is of it
is_out-here : (x : ℕ) (t : Task) (ts : List Task) → eqb t.dest x ≡ true → is_out ts x ≡ false → is_out (t ∷ ts) x ≡ t.is_out
is_out-here x t ts here none = go t.is_out
  where
    go : (b : Bool) → list_any (λ y. eqb y x) (map (λ (t : Task). t.dest) (cond b (t ∷ filter (λ (t : Task). t.is_out) ts) (filter (λ (t : Task). t.is_out) ts))) ≡ b
    go true = rw here refl
    go false = none

-- what is left of a task and others without a destination
without-cons : (x : ℕ) (t : Task) (ts : List Task) (b : Bool) → eqb t.dest x ≡ b → without_task x (t ∷ ts) ≡ cond b (without_task x ts) (t ∷ without_task x ts)
without-cons x t ts true e = ap (λ b. cond (not b) (t ∷ without_task x ts) (without_task x ts)) e
without-cons x t ts false e = ap (λ b. cond (not b) (t ∷ without_task x ts) (without_task x ts)) e

-- a destination that no entry has is not out
not_out : (x : ℕ) (es : List (ℕ × Bool)) → AllByRecursion (λ y. eqb x y ≡ false) (keys_of es) → is_out (tasks_of es) x ≡ false
not_out x [] all = refl
not_out x (e ∷ es) all = is_out-other x (task_of e) (tasks_of es) (flip e.0 x all.0) ∙ not_out x es all.1

-- and leaves nothing out of a list
nothing_out : (x : ℕ) (es : List (ℕ × Bool)) → AllByRecursion (λ y. eqb x y ≡ false) (keys_of es) → without_task x (tasks_of es) ≡ tasks_of es
nothing_out x [] all = refl
nothing_out x (e ∷ es) all = without-cons x (task_of e) (tasks_of es) false (flip e.0 x all.0) ∙ ap (λ ts. task_of e ∷ ts) (nothing_out x es all.1)

-- a destination at its place
at_place : (x i : ℕ) (es : List (ℕ × Bool)) → IsDistinct eqb (keys_of es) → i < length (keys_of es) → ((d : ℕ) → eqb x (get_or (keys_of es) i d) ≡ true) → ((d k : ℕ) → k < i → eqb x (get_or (keys_of es) k d) ≡ false) → IsAt (tasks_of es) x i
unfolding IsDistinct
at_place x i [] apart within here before = absurd (omega arith)
at_place x zero (e ∷ es) apart within here before =
    let same : x ≡ e.0 = eqb-true x e.0 (here 0) in
    let none : AllByRecursion (λ y. eqb x y ≡ false) (keys_of es) = subst (λ n. AllByRecursion (λ y. eqb n y ≡ false) (keys_of es)) (sym same) apart.0 in
    let is_x : eqb e.0 x ≡ true = eq-eqb e.0 x (sym same) in
    let told : is_out (tasks_of (e ∷ es)) x ≡ e.1 = is_out-here x (task_of e) (tasks_of es) is_x (not_out x es none) in
    let is_same : (y : ℕ) (b : Bool) → y ≡ x → b ≡ e.1 → e.0 ≡ y → Some (task_of e) ≡ Some (record { dest = y; is_out = b }) = λ y b a k l. rw (k, ← l) refl in
    record {
      in_range = omega arith;
      task = is_same x (is_out (tasks_of (e ∷ es)) x) refl told (sym same);
      removes = sym (without-cons x (task_of e) (tasks_of es) true is_x ∙ nothing_out x es none);
    }
at_place x (suc i) (e ∷ es) apart within here before =
    let other : eqb e.0 x ≡ false = flip e.0 x (before 0 0 (omega arith)) in
    let rest = at_place x i es apart.1 (omega arith) here (λ d k lt. before d (suc k) (omega arith)) in
    record {
      in_range = let l = rest.in_range in omega arith;
      task = rest.task ∙ ap (λ b. Some (record { dest = x; is_out = b })) (sym (is_out-other x (task_of e) (tasks_of es) other));
      removes = ap (λ ts. task_of e ∷ ts) rest.removes ∙ sym (without-cons x (task_of e) (tasks_of es) false other);
    }

-- a destination that isn't found is not out
missing : (x : ℕ) (es : List (ℕ × Bool)) → lookup (eqb x) es ≡ None → is_out (tasks_of es) x ≡ false
missing x [] none = refl
missing x (e ∷ es) none =
    ⊎_elim
    (λ here. let found : Some e.1 ≡ None = rw here at none in absurd (cc))
    (λ other. is_out-other x (task_of e) (tasks_of es) (flip e.0 x other) ∙ missing x es (rw other at none))
    (cases_Bool (eqb x e.0))

-- what a look-up of a place says
pub not_found : (x : ℕ) (es : List (ℕ × Bool)) → None ≡ position (eqb x) (keys_of es) → is_out (tasks_of es) x ≡ false
not_found x es e = missing x es (Missing-position (eqb x) es (sym e)).value

pub found_at : (x : ℕ) (es : List (ℕ × Bool)) → IsDistinct eqb (keys_of es) → (i : ℕ) → Some i ≡ position (eqb x) (keys_of es) → IsAt (tasks_of es) x i
found_at x es apart i e =
    let found : (d : ℕ) → (i < length (keys_of es)) × (eqb x (get_or (keys_of es) i d) ≡ true) × ((k : ℕ) → k < i → eqb x (get_or (keys_of es) k d) ≡ false) = λ d. position-Some (eqb x) (keys_of es) i d (sym e) in
    at_place x i es apart (found 0).0 (λ d. (found d).1) (λ d. (found d).2)

-- the tasks after a value is written
pub tasks-set_value_at : (es : List (ℕ × Bool)) (i : ℕ) (b : Bool) → tasks_of (set_value_at es i b) ≡ marked i b (tasks_of es)
tasks-set_value_at [] i b = refl
tasks-set_value_at (e ∷ es) zero b = refl
tasks-set_value_at (e ∷ es) (suc i) b = ap (λ ts. task_of e ∷ ts) (tasks-set_value_at es i b)

-- and after one is moved
pub tasks-move_index : (es : List (ℕ × Bool)) (i j : ℕ) → tasks_of (move_index es i j) ≡ move_index (tasks_of es) i j
tasks-move_index es i j = go (slice_get es i) ∙ ap (λ o. option_map_or (λ t. insert (remove (tasks_of es) i) j t) o (tasks_of es)) (sym (slice_get-map task_of es i))
  where
    go : (o : Option (ℕ × Bool)) → tasks_of (option_map_or (λ e. insert (remove es i) j e) o es) ≡ option_map_or (λ t. insert (remove (tasks_of es) i) j t) (option_map task_of o) (tasks_of es)
    go None = refl
    go (Some e) = map_insert task_of (remove es i) j e ∙ ap (λ ts. insert ts j (task_of e)) (map_remove task_of es i)

pub tasks-remove : (es : List (ℕ × Bool)) (i : ℕ) → tasks_of (remove es i) ≡ remove (tasks_of es) i
tasks-remove es i = map_remove task_of es i

-- what holds of all entries holds of them in other places
module _ {X : Type 0} (P : X → Type 0) where
  All-take : (xs : List X) (i : ℕ) → AllByRecursion P xs → AllByRecursion P (take i xs)
  All-take [] zero all = tt
  All-take [] (suc i) all = tt
  All-take (x ∷ xs) zero all = tt
  All-take (x ∷ xs) (suc i) all = (all.0, All-take xs i all.1)

  All-drop : (xs : List X) (i : ℕ) → AllByRecursion P xs → AllByRecursion P (drop i xs)
  All-drop [] zero all = tt
  All-drop [] (suc i) all = tt
  All-drop (x ∷ xs) zero all = all
  All-drop (x ∷ xs) (suc i) all = All-drop xs i all.1

  All-append : (xs ys : List X) → AllByRecursion P xs → AllByRecursion P ys → AllByRecursion P (xs ++ ys)
  All-append [] ys all others = others
  All-append (x ∷ xs) ys all others = (all.0, All-append xs ys all.1 others)

  All-slice_get : (xs : List X) (i : ℕ) (x : X) → AllByRecursion P xs → slice_get xs i ≡ Some x → P x
  All-slice_get [] i x all at = absurd (cc)
  All-slice_get (y ∷ ys) zero x all at = let same : y ≡ x = cc in subst P same all.0
  All-slice_get (y ∷ ys) (suc i) x all at = All-slice_get ys i x all.1 at

  pub All-remove : (xs : List X) (i : ℕ) → AllByRecursion P xs → AllByRecursion P (remove xs i)
  All-remove xs i all = All-append (take i xs) (drop (suc i) xs) (All-take xs i all) (All-drop xs (suc i) all)

  pub All-move_index : (xs : List X) (i j : ℕ) → AllByRecursion P xs → AllByRecursion P (move_index xs i j)
  All-move_index xs i j all = go (slice_get xs i) refl
    where
      go : (o : Option X) → slice_get xs i ≡ o → AllByRecursion P (option_map_or (λ x. insert (remove xs i) j x) o xs)
      go None e = all
      go (Some x) e =
          let rest = All-remove xs i all in
          All-append (take j (remove xs i)) (x ∷ drop j (remove xs i)) (All-take (remove xs i) j rest) (All-slice_get xs i x all e, All-drop (remove xs i) j rest)

-- numbers stay small if a value is written, or an entry put in
pub small-set_value_at : (es : List (ℕ × Bool)) (i : ℕ) (b : Bool) → AllByRecursion (λ e. e.0 < 16384) es → AllByRecursion (λ e. e.0 < 16384) (set_value_at es i b)
small-set_value_at [] i b all = tt
small-set_value_at (e ∷ es) zero b all = all
small-set_value_at (e ∷ es) (suc i) b all = (all.0, small-set_value_at es i b all.1)

pub small-insert_entry : (es : List (ℕ × Bool)) (x : ℕ) (b : Bool) → x < 16384 → AllByRecursion (λ e. e.0 < 16384) es → AllByRecursion (λ e. e.0 < 16384) (insert_entry eqb es x b)
small-insert_entry [] x b small all = (small, tt)
small-insert_entry (e ∷ es) x b small all =
    cond_both (eqb x e.0) ((e.0, b) ∷ es) (e ∷ insert_entry eqb es x b) (AllByRecursion (λ e. e.0 < 16384)) (λ here. all) (λ other. (all.0, small-insert_entry es x b small all.1))

-- one that no entry has is put in last
entered_last : (es : List (ℕ × Bool)) (x : ℕ) → AllByRecursion (λ e. eqb x e.0 ≡ false) es → insert_entry eqb es x false ≡ es ++ (x, false) ∷ []
entered_last [] x all = refl
entered_last (e ∷ es) x all = rw all.0 (ap (λ fs. e ∷ fs) (entered_last es x all.1))

-- no entry of those above a destination has it
others : (x : ℕ) (ys : List ℕ) → AllByRecursion (λ y. x < y) ys → AllByRecursion (λ e. eqb x e.0 ≡ false) (waiting_entries ys)
others x [] all = tt
others x (y ∷ ys) all = (ne_eqb x y (λ e. let above = all.0 in omega arith), others x ys all.1)

-- what holds of all holds of all from the last
All-turned : (P : ℕ → Type 0) (xs : List ℕ) → AllByRecursion P xs → AllByRecursion P (reverse xs)
All-turned P [] all = tt
All-turned P (x ∷ xs) all = subst (AllByRecursion P) (sym (reverse-cons x xs)) (All-append P (reverse xs) (x ∷ []) (All-turned P xs all.1) (all.0, tt))

-- of rising destinations, from the last, one more is put in last
fill-suc : (xs : List ℕ) (k d : ℕ) → IsRising (λ x. x) xs → k < length xs → insert_entry eqb (waiting_entries (reverse (drop (suc k) xs))) (get_or xs k d) false ≡ waiting_entries (reverse (drop k xs))
fill-suc [] k d up within = absurd (omega arith)
fill-suc (x ∷ xs) zero d up within =
    entered_last (waiting_entries (reverse xs)) x (others x (reverse xs) (All-turned (λ y. x < y) xs up.0))
    ∙ (sym (map-append (λ y. (y, false)) (reverse xs) (x ∷ [])) ∙ ap waiting_entries (sym (reverse-cons x xs)))
fill-suc (x ∷ xs) (suc k) d up within = fill-suc xs k d up.1 (omega arith)

-- the tasks of entries that wait
tasks-waiting : (xs : List ℕ) → tasks_of (waiting_entries xs) ≡ all_waiting xs
tasks-waiting [] = refl
tasks-waiting (x ∷ xs) = ap (λ ts. task_of (x, false) ∷ ts) (tasks-waiting xs)

module _ (xs : List ℕ) (k : ℕ) (up : IsRising (λ x. x) xs) (es : List (ℕ × Bool)) (filled : es ≡ waiting_entries (reverse (drop k xs))) where
  pub fill-more : (l d x : ℕ) → k ≡ suc l → k ≤ length xs → x ≡ get_or xs l d → insert_entry eqb es x false ≡ waiting_entries (reverse (drop l xs))
  fill-more l d x next within is = rw (filled, is, next) (fill-suc xs l d up (omega arith))

  -- all are put in
  pub fill-all : k ≡ 0 → reverse (tasks_of es) ≡ all_waiting xs
  fill-all e =
      ap (λ fs. reverse (tasks_of fs)) (filled ∙ ap (λ n. waiting_entries (reverse (drop n xs))) e)
      ∙ (ap reverse (tasks-waiting (reverse xs) ∙ map_turned waiting_task xs) ∙ reverse-reverse (all_waiting xs))
