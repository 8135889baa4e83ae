-- A waiting list stands in its map from the last to the first: what is at a place there, seen from the front.
use Rattle.std.proofs.Common.{◌≡◌, ℕ, zero, suc, ◌+◌, ◌<◌, Bool, true, false, ◌||◌, ◌==◌, not, Some, List, [], ◌∷◌, ◌++◌, length, take, drop, map, filter, insert, remove, reverse, slice_get, cond, refl, ap, sym, ◌∙◌, arith}
use Rattle.std.specs.List.{list_any}
use Rattle.std.specs.Option.{option_map_or}
use Rattle.std.proofs.lemmas.List.{append-nil, append_assoc, length-reverse, map-append, reverse-append, take-append-drop}
use Rattle.std.proofs.lemmas.List.Edits.{length-remove}
use Rattle.std.proofs.lemmas.List.Elements.{filter-append}
use Rattle.std.proofs.lemmas.List.Folds.{list_any-append}
use mathlib.Core.List.{reverse-cons}
use Rattle.indexmap.specs.IndexMap.{move_index}
use Rattle.dirty_sets.specs.Waiting.{Task, is_out}
use Rattle.dirty_sets.specs.Entries.{tasks_of, marked, IsAt}

module _ {X : Type 0} where
  -- one more at the end of a list
  get_before : (xs : List X) (x : X) (i : ℕ) → i < length xs → slice_get (xs ++ x ∷ []) i ≡ slice_get xs i
  get_before [] x i within = absurd (omega arith)
  get_before (y ∷ ys) x zero within = refl
  get_before (y ∷ ys) x (suc i) within = get_before ys x i (omega arith)

  get_last : (xs : List X) (x : X) (i : ℕ) → i ≡ length xs → slice_get (xs ++ x ∷ []) i ≡ Some x
  get_last [] x zero e = refl
  get_last [] x (suc i) e = absurd (omega arith)
  get_last (y ∷ ys) x zero e = absurd (omega arith)
  get_last (y ∷ ys) x (suc i) e = get_last ys x i (omega arith)

  -- what is at a place
  pub get_turned : (xs : List X) (k i : ℕ) → k + suc i ≡ length xs → slice_get (reverse xs) i ≡ slice_get xs k
  get_turned [] k i e = absurd (omega arith)
  get_turned (x ∷ xs) zero i e =
      let same = length-reverse xs in
      ap (λ ys. slice_get ys i) (reverse-cons x xs) ∙ get_last (reverse xs) x i (omega arith)
  get_turned (x ∷ xs) (suc k) i e =
      let same = length-reverse xs in
      ap (λ ys. slice_get ys i) (reverse-cons x xs) ∙ (get_before (reverse xs) x i (omega arith) ∙ get_turned xs k i (omega arith))

  -- the first part of two, and the second
  take_front : (xs ys : List X) (i : ℕ) → i ≡ length xs → take i (xs ++ ys) ≡ xs
  take_front [] ys zero e = refl
  take_front [] ys (suc i) e = absurd (omega arith)
  take_front (x ∷ xs) ys zero e = absurd (omega arith)
  take_front (x ∷ xs) ys (suc i) e = ap (λ zs. x ∷ zs) (take_front xs ys i (omega arith))

  drop_front : (xs ys : List X) (i : ℕ) → i ≡ length xs → drop i (xs ++ ys) ≡ ys
  drop_front [] ys zero e = refl
  drop_front [] ys (suc i) e = absurd (omega arith)
  drop_front (x ∷ xs) ys zero e = absurd (omega arith)
  drop_front (x ∷ xs) ys (suc i) e = drop_front xs ys i (omega arith)

  -- how many stand from a place on
  length_from : (xs : List X) (k i : ℕ) → k + i ≡ length xs → i ≡ length (drop k xs)
  length_from xs zero i e = omega arith
  length_from [] (suc k) i e = absurd (omega arith)
  length_from (x ∷ xs) (suc k) i e = length_from xs k i (omega arith)

  -- both parts, turned
  parts_turned : (xs : List X) (k : ℕ) → reverse xs ≡ reverse (drop k xs) ++ reverse (take k xs)
  parts_turned xs k = ap reverse (sym (take-append-drop k xs)) ∙ reverse-append (take k xs) (drop k xs)

  -- the parts before and after a place
  take_turned : (xs : List X) (k i : ℕ) → k + i ≡ length xs → take i (reverse xs) ≡ reverse (drop k xs)
  take_turned xs k i e = ap (take i) (parts_turned xs k) ∙ take_front (reverse (drop k xs)) (reverse (take k xs)) i (length_from xs k i e ∙ sym (length-reverse (drop k xs)))

  drop_turned : (xs : List X) (k i : ℕ) → k + i ≡ length xs → drop i (reverse xs) ≡ reverse (take k xs)
  drop_turned xs k i e = ap (drop i) (parts_turned xs k) ∙ drop_front (reverse (drop k xs)) (reverse (take k xs)) i (length_from xs k i e ∙ sym (length-reverse (drop k xs)))

  -- without the one at a place
  pub remove_turned : (xs : List X) (k i : ℕ) → k + suc i ≡ length xs → reverse (remove xs k) ≡ remove (reverse xs) i
  remove_turned xs k i e =
      let after : suc k + i ≡ length xs = omega arith in
      reverse-append (take k xs) (drop (suc k) xs)
      ∙ (ap (λ ys. ys ++ reverse (take k xs)) (sym (take_turned xs (suc k) i after)) ∙ ap (λ ys. take i (reverse xs) ++ ys) (sym (drop_turned xs k (suc i) e)))

  -- with one put in
  insert_turned : (xs : List X) (k i : ℕ) (x : X) → k + i ≡ length xs → reverse (insert xs k x) ≡ insert (reverse xs) i x
  insert_turned xs k i x e =
      reverse-append (take k xs) (x ∷ drop k xs)
      ∙ (ap (λ ys. ys ++ reverse (take k xs)) (reverse-cons x (drop k xs))
      ∙ (append_assoc (reverse (drop k xs)) (x ∷ []) (reverse (take k xs))
      ∙ (ap (λ ys. ys ++ x ∷ reverse (take k xs)) (sym (take_turned xs k i e)) ∙ ap (λ ys. take i (reverse xs) ++ x ∷ ys) (sym (drop_turned xs k i e)))))

  -- with one moved
  -- something is at a place
  there : (xs : List X) (k : ℕ) → k < length xs → (x : X) × (slice_get xs k ≡ Some x)
  there [] k within = absurd (omega arith)
  there (x ∷ xs) zero within = (x, refl)
  there (x ∷ xs) (suc k) within = there xs k (omega arith)

  move_one : (xs : List X) (x : X) (k l i j : ℕ) → k + suc i ≡ length xs → l + suc j ≡ length xs → slice_get xs k ≡ Some x → reverse (move_index xs k l) ≡ move_index (reverse xs) i j
  move_one xs x k l i j from to at =
      let fewer : length (remove xs k) + 1 ≡ length xs = length-remove xs k (omega arith) in
      ap (λ o. reverse (option_map_or (λ y. insert (remove xs k) l y) o xs)) at
      ∙ (insert_turned (remove xs k) l j x (omega arith)
      ∙ (ap (λ ys. insert ys j x) (remove_turned xs k i from)
      ∙ sym (ap (λ o. option_map_or (λ y. insert (remove (reverse xs) i) j y) o (reverse xs)) (get_turned xs k i from ∙ at))))

  pub move_turned : (xs : List X) (k l i j : ℕ) → k + suc i ≡ length xs → l + suc j ≡ length xs → reverse (move_index xs k l) ≡ move_index (reverse xs) i j
  move_turned xs k l i j from to = let at = there xs k (omega arith) in move_one xs at.0 k l i j from to at.1

  -- those that pass a test
  filter_turned : (p : X → Bool) (xs : List X) → reverse (filter p xs) ≡ filter p (reverse xs)
  filter_turned p [] = refl
  filter_turned p (x ∷ xs) = go (p x) (filter_turned p xs) ∙ sym (ap (filter p) (reverse-cons x xs) ∙ filter-append p (reverse xs) (x ∷ []))
    where
      go : (b : Bool) → reverse (filter p xs) ≡ filter p (reverse xs) → reverse (cond b (x ∷ filter p xs) (filter p xs)) ≡ filter p (reverse xs) ++ cond b (x ∷ []) []
      go true rest = reverse-cons x (filter p xs) ∙ ap (λ ys. ys ++ x ∷ []) rest
      go false rest = rest ∙ sym (append-nil (filter p (reverse xs)))

  -- whether one passes a test
  any_turned : (p : X → Bool) (xs : List X) → list_any p (reverse xs) ≡ list_any p xs
  any_turned p [] = refl
  any_turned p (x ∷ xs) =
      ap (list_any p) (reverse-cons x xs)
      ∙ (list_any-append p (reverse xs) (x ∷ [])
      ∙ (ap (λ b. b || (p x || false)) (any_turned p xs) ∙ either (list_any p xs) (p x)))
    where
      either : (b c : Bool) → (b || (c || false)) ≡ (c || b)
      either true true = refl
      either true false = refl
      either false true = refl
      either false false = refl

-- what is made of each
pub map_turned : {X Y : Type 0} (f : X → Y) (xs : List X) → map f (reverse xs) ≡ reverse (map f xs)
map_turned f [] = refl
map_turned f (x ∷ xs) =
    ap (map f) (reverse-cons x xs) ∙ (map-append f (reverse xs) (x ∷ []) ∙ (ap (λ ys. ys ++ f x ∷ []) (map_turned f xs) ∙ sym (reverse-cons (f x) (map f xs))))

-- what is out
pub is_out_turned : (ts : List Task) (x : ℕ) → is_out (reverse ts) x ≡ is_out ts x
is_out_turned ts x =
    ap (λ us. list_any (λ y. y == x) (map (λ (t : Task). t.dest) us)) (sym (filter_turned (λ (t : Task). t.is_out) ts))
    ∙ (ap (list_any (λ y. y == x)) (map_turned (λ (t : Task). t.dest) (filter (λ (t : Task). t.is_out) ts)) ∙ any_turned (λ y. y == x) (map (λ (t : Task). t.dest) (filter (λ (t : Task). t.is_out) ts)))

-- where a destination is
pub at_turned : (ts : List Task) (x k i : ℕ) → k + suc i ≡ length ts → IsAt ts x k → IsAt (reverse ts) x i
at_turned ts x k i e at =
    let same = length-reverse ts in
    record {
      in_range = omega arith;
      task = get_turned ts k i e ∙ (at.task ∙ ap (λ b. Some (record { dest = x; is_out = b })) (sym (is_out_turned ts x)));
      removes = sym (remove_turned ts k i e) ∙ (ap reverse at.removes ∙ filter_turned (λ (t : Task). not (t.dest == x)) ts);
    }

-- one that is out, or waits
marked_before : (ts : List Task) (t : Task) (i : ℕ) (b : Bool) → i < length ts → marked i b (ts ++ t ∷ []) ≡ marked i b ts ++ t ∷ []
marked_before [] t i b within = absurd (omega arith)
marked_before (y ∷ ys) t zero b within = refl
marked_before (y ∷ ys) t (suc i) b within = ap (λ us. y ∷ us) (marked_before ys t i b (omega arith))

marked_end : (ts : List Task) (t : Task) (i : ℕ) (b : Bool) → i ≡ length ts → marked i b (ts ++ t ∷ []) ≡ ts ++ record t { is_out = b } ∷ []
marked_end [] t zero b e = refl
marked_end [] t (suc i) b e = absurd (omega arith)
marked_end (y ∷ ys) t zero b e = absurd (omega arith)
marked_end (y ∷ ys) t (suc i) b e = ap (λ us. y ∷ us) (marked_end ys t i b (omega arith))

pub marked_turned : (ts : List Task) (k i : ℕ) (b : Bool) → k + suc i ≡ length ts → reverse (marked k b ts) ≡ marked i b (reverse ts)
marked_turned [] k i b e = absurd (omega arith)
marked_turned (t ∷ ts) zero i b e =
    let same = length-reverse ts in
    reverse-cons (record t { is_out = b }) ts ∙ (sym (marked_end (reverse ts) t i b (omega arith)) ∙ ap (marked i b) (sym (reverse-cons t ts)))
marked_turned (t ∷ ts) (suc k) i b e =
    let same = length-reverse ts in
    reverse-cons t (marked k b ts)
    ∙ (ap (λ us. us ++ t ∷ []) (marked_turned ts k i b (omega arith)) ∙ (sym (marked_before (reverse ts) t i b (omega arith)) ∙ ap (marked i b) (sym (reverse-cons t ts))))

-- a place of an entry, and that of its task
pub turn_of : (es : List (ℕ × Bool)) (ts : List Task) (k i : ℕ) → reverse (tasks_of es) ≡ ts → k + suc i ≡ length ts → k + suc i ≡ length (tasks_of es)
turn_of es ts k i view e = e ∙ (ap length (sym view) ∙ length-reverse (tasks_of es))

pub turn_back : (es : List (ℕ × Bool)) (ts : List Task) (k i : ℕ) → reverse (tasks_of es) ≡ ts → i + suc k ≡ length ts → k + suc i ≡ length (tasks_of es)
turn_back es ts k i view e = let back : k + suc i ≡ length ts = omega arith in turn_of es ts k i view back
