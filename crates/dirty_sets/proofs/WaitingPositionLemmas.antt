-- Which task of a waiting list is the first that waits, how many wait, and the least that is out.
use Rattle.std.proofs.Common.{◌≡◌, ℕ, zero, suc, ◌+◌, ◌-◌, ◌<◌, Bool, true, false, not, Option, Some, None, List, [], ◌∷◌, ◌++◌, length, take, drop, slice_get, cond, refl, ap, sym, ◌∙◌, subst, arith}
use Rattle.std.specs.Prelude.{filter, insert, map, remove}
use Rattle.std.specs.List.{list_all}
use Rattle.std.specs.Option.{option_map_or}
use Rattle.std.proofs.Math.Numerals.{add-one}
use Rattle.std.proofs.Math.Seq.{drop-length, take-length}
use Rattle.std.proofs.lemmas.Bool.{and_parts}
use Rattle.std.proofs.lemmas.List.Edits.{length-remove}
use Rattle.std.proofs.lemmas.List.Folds.{list_all-append}
use Rattle.indexmap.specs.IndexMap.{move_index}
use Rattle.dirty_sets.specs.Waiting.{Task, first_waiting, is_out, least, lesser, out, put_last, taken, waiting, waiting_task}
use Rattle.dirty_sets.specs.Entries.{marked, IsAt, IsFirstWaiting}

-- a task that waits, if all before it are out, is the first
pub first_is : (ts : List Task) (i : ℕ) (t : Task) → list_all (λ (t : Task). t.is_out) (take i ts) ≡ true → slice_get ts i ≡ Some t → t.is_out ≡ false → IsFirstWaiting ts i t.dest
first_is [] i t before at waits = absurd (cc)
first_is (y ∷ ys) zero t before at waits =
    let same : y ≡ t = cc in
    let waits_y : y.is_out ≡ false = ap (λ (t : Task). t.is_out) same ∙ waits in
    record {
      in_range = omega arith;
      waits = rw waits_y (ap (λ (t : Task). Some t.dest) same);
      takes = rw waits_y refl;
    }
first_is (y ∷ ys) (suc i) t before at waits =
    let both = and_parts y.is_out _ before in
    let rest = first_is ys i t both.1 at waits in
    record {
      in_range = let l = rest.in_range in omega arith;
      waits = ap (λ b. cond b (first_waiting ys) (Some y.dest)) both.0 ∙ rest.waits;
      takes = ap (λ b. cond b (y ∷ taken ys) (record y { is_out = true } ∷ ys)) both.0 ∙ ap (λ ts. y ∷ ts) rest.takes;
    }

-- none waits
none_waits : (ts : List Task) → list_all (λ (t : Task). t.is_out) ts ≡ true → (first_waiting ts ≡ None) × (taken ts ≡ ts)
none_waits [] all = (refl, refl)
none_waits (t ∷ ts) all =
    let both = and_parts t.is_out _ all in
    let rest = none_waits ts both.1 in
    (ap (λ b. cond b (first_waiting ts) (Some t.dest)) both.0 ∙ rest.0, ap (λ b. cond b (t ∷ taken ts) (record t { is_out = true } ∷ ts)) both.0 ∙ ap (λ ts. t ∷ ts) rest.1)

pub none_waits_before : (ts : List Task) (i : ℕ) → i ≡ length ts → list_all (λ (t : Task). t.is_out) (take i ts) ≡ true → (first_waiting ts ≡ None) × (taken ts ≡ ts)
none_waits_before ts i e all = none_waits ts (subst (λ us. list_all (λ (t : Task). t.is_out) us ≡ true) (ap (λ n. take n ts) e ∙ take-length ts) all)

-- one more of a list from the front
take-step : (ts : List Task) (i : ℕ) (t : Task) → slice_get ts i ≡ Some t → take (suc i) ts ≡ take i ts ++ t ∷ []
take-step [] i t at = absurd (cc)
take-step (y ∷ ys) zero t at = let same : y ≡ t = cc in rw same refl
take-step (y ∷ ys) (suc i) t at = ap (λ ts. y ∷ ts) (take-step ys i t at)

drop-step : (ts : List Task) (i : ℕ) (t : Task) → slice_get ts i ≡ Some t → drop i ts ≡ t ∷ drop (suc i) ts
drop-step [] i t at = absurd (cc)
drop-step (y ∷ ys) zero t at = let same : y ≡ t = cc in rw same refl
drop-step (y ∷ ys) (suc i) t at = drop-step ys i t at

-- one more that is out
pub out_more : (ts : List Task) (i : ℕ) (t : Task) → list_all (λ (t : Task). t.is_out) (take i ts) ≡ true → slice_get ts i ≡ Some t → t.is_out ≡ true → list_all (λ (t : Task). t.is_out) (take (i + 1) ts) ≡ true
out_more ts i t before at is = rw (add-one i, take-step ts i t at, list_all-append (λ (t : Task). t.is_out) (take i ts) (t ∷ []), before, is) refl

-- how many of one more wait
one_waits : (ts : List Task) (t : Task) → t.is_out ≡ false → length (waiting (ts ++ t ∷ [])) ≡ length (waiting ts) + 1
one_waits [] t waits = rw waits refl
one_waits (y ∷ ys) t waits = go y.is_out (one_waits ys t waits)
  where
    go : (b : Bool) → length (waiting (ys ++ t ∷ [])) ≡ length (waiting ys) + 1
        → length (map (λ (t : Task). t.dest) (cond (not b) (y ∷ filter (λ (t : Task). not t.is_out) (ys ++ t ∷ [])) (filter (λ (t : Task). not t.is_out) (ys ++ t ∷ []))))
        ≡ length (map (λ (t : Task). t.dest) (cond (not b) (y ∷ filter (λ (t : Task). not t.is_out) ys) (filter (λ (t : Task). not t.is_out) ys))) + 1
    go true rest = rest
    go false rest = omega arith

none_more : (ts : List Task) (t : Task) → t.is_out ≡ true → length (waiting (ts ++ t ∷ [])) ≡ length (waiting ts)
none_more [] t is = rw is refl
none_more (y ∷ ys) t is = go y.is_out (none_more ys t is)
  where
    go : (b : Bool) → length (waiting (ys ++ t ∷ [])) ≡ length (waiting ys)
        → length (map (λ (t : Task). t.dest) (cond (not b) (y ∷ filter (λ (t : Task). not t.is_out) (ys ++ t ∷ [])) (filter (λ (t : Task). not t.is_out) (ys ++ t ∷ []))))
        ≡ length (map (λ (t : Task). t.dest) (cond (not b) (y ∷ filter (λ (t : Task). not t.is_out) ys) (filter (λ (t : Task). not t.is_out) ys)))
    go true rest = rest
    go false rest = omega arith

pub count_one : (ts : List Task) (i : ℕ) (t : Task) → slice_get ts i ≡ Some t → t.is_out ≡ false → length (waiting (take (i + 1) ts)) ≡ length (waiting (take i ts)) + 1
count_one ts i t at waits = rw (add-one i, take-step ts i t at) (one_waits (take i ts) t waits)

pub count_none : (ts : List Task) (i : ℕ) (t : Task) → slice_get ts i ≡ Some t → t.is_out ≡ true → length (waiting (take (i + 1) ts)) ≡ length (waiting (take i ts))
count_none ts i t at is = rw (add-one i, take-step ts i t at) (none_more (take i ts) t is)

-- the least that is out, from one place before
least_more : (ts : List Task) (i : ℕ) (t : Task) → slice_get ts i ≡ Some t → least (out (drop i ts)) ≡ cond t.is_out (Some (lesser t.dest (least (out (drop (suc i) ts))))) (least (out (drop (suc i) ts)))
least_more ts i t at = ap (λ ts. least (out ts)) (drop-step ts i t at) ∙ go t.is_out
  where
    go : (b : Bool) → least (map (λ (t : Task). t.dest) (cond b (t ∷ filter (λ (t : Task). t.is_out) (drop (suc i) ts)) (filter (λ (t : Task). t.is_out) (drop (suc i) ts))))
        ≡ cond b (Some (lesser t.dest (least (out (drop (suc i) ts))))) (least (out (drop (suc i) ts)))
    go true = refl
    go false = refl

module _ (ts : List Task) (n : ℕ) (t : Task) (first : Option ℕ) (some : 0 < n) (at : slice_get ts (n - 1) ≡ Some t) (found : first ≡ least (out (drop n ts))) where
  found_after : first ≡ least (out (drop (suc (n - 1)) ts))
  found_after = let same : n ≡ suc (n - 1) = omega arith in subst (λ m. first ≡ least (out (drop m ts))) same found

  -- with the one there, which is out
  pub least_taken : (x : ℕ) → t.is_out ≡ true → x ≡ lesser t.dest first → Some x ≡ least (out (drop (n - 1) ts))
  least_taken x is e =
      let lesser_of : Some x ≡ Some (lesser t.dest (least (out (drop (suc (n - 1)) ts)))) = ap (λ y. Some y) (e ∙ ap (lesser t.dest) found_after) in
      let step : least (out (drop (n - 1) ts)) ≡ Some (lesser t.dest (least (out (drop (suc (n - 1)) ts)))) = least_more ts (n - 1) t at ∙ ap (λ b. cond b (Some (lesser t.dest (least (out (drop (suc (n - 1)) ts))))) (least (out (drop (suc (n - 1)) ts)))) is in
      lesser_of ∙ sym step

  -- with the one there, which waits
  pub least_kept : t.is_out ≡ false → first ≡ least (out (drop (n - 1) ts))
  least_kept waits =
      let step : least (out (drop (n - 1) ts)) ≡ least (out (drop (suc (n - 1)) ts)) = least_more ts (n - 1) t at ∙ ap (λ b. cond b (Some (lesser t.dest (least (out (drop (suc (n - 1)) ts))))) (least (out (drop (suc (n - 1)) ts)))) waits in
      found_after ∙ sym step

-- one put in at the end
insert_last : (ts : List Task) (n : ℕ) (t : Task) → n ≡ length ts → insert ts n t ≡ ts ++ t ∷ []
insert_last ts n t e = rw (e, take-length ts, drop-length ts) refl

-- the last is out, or waits
marked_last : (ts : List Task) (t : Task) (b : Bool) → marked (length ts) b (ts ++ t ∷ []) ≡ ts ++ record t { is_out = b } ∷ []
marked_last [] t b = refl
marked_last (y ∷ ys) t b = ap (λ ts. y ∷ ts) (marked_last ys t b)

-- one that is moved to the end and waits there
pub last_again : (ts : List Task) (x i last : ℕ) → IsAt ts x i → last + 1 ≡ length ts → marked last false (move_index ts i last) ≡ put_last x ts
last_again ts x i last at end =
    let t : Task = record { dest = x; is_out = is_out ts x } in
    let fewer : length (remove ts i) + 1 ≡ length ts = length-remove ts i at.in_range in
    let is_end : last ≡ length (remove ts i) = omega arith in
    let moved : move_index ts i last ≡ remove ts i ++ t ∷ [] = ap (λ o. option_map_or (λ t. insert (remove ts i) last t) o ts) at.task ∙ insert_last (remove ts i) last t is_end in
    ap (marked last false) moved
    ∙ (ap (λ n. marked n false (remove ts i ++ t ∷ [])) is_end
    ∙ (marked_last (remove ts i) t false ∙ ap (λ ts. ts ++ waiting_task x ∷ []) at.removes))
