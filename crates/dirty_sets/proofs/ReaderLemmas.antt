-- Lists of readers.
use Rattle.std.proofs.Common.{◌≡◌, ℕ, zero, suc, ◌+◌, ◌<◌, Bool, true, false, ◌&&◌, ◌||◌, eqb, Option, Some, None, is_some, List, [], ◌∷◌, ◌++◌, length, take, drop, set, get_or, map, cond, refl, ap, sym, ◌∙◌, subst, arith}
use Rattle.std.specs.List.{AllByRecursion, AllZip, list_any}
use Rattle.std.specs.Option.{option_map_or, option_or}
use Rattle.std.proofs.lemmas.Bool.{eqb-true, ne_eqb}
use Rattle.std.proofs.lemmas.Bool.Decides.{nat_tests}
use Rattle.std.proofs.lemmas.List.{take_more, take_more_set, drop_more, drop-set-lt}
use Rattle.std.proofs.lemmas.List.Folds.{list_any_more, find-append}
use Rattle.std.proofs.lemmas.List.Elements.{All-from_recursion}
use Rattle.net_items.specs.declared.items.Point.{Point}
use Rattle.net_items.specs.declared.items.LinkSet.{LinkSet}
use Rattle.net_items.specs.declared.items.Plan.{Plan}
use Rattle.net_items.specs.Keyed.{IsRising, at_key, put, without}
use Rattle.net_items.specs.Lookups.{set_at, plan_at}
use Rattle.excerpts.specs.Excerpt.{is_read_by}
use Rattle.dirty_sets.specs.declared.readers.Reader.{Reader}
use Rattle.dirty_sets.specs.Bits.{is_marked}
use Rattle.dirty_sets.specs.Index.{IsWithId, IsReaderOf, reads_among}

-- ---- lists in rising keys

module _ {X : Type 0} (key : X → ℕ) where
  none_later : (t : X → Bool) (k : ℕ) (xs : List X) → AllByRecursion (λ y. k < key y) xs → list_any (λ y. eqb (key y) k && t y) xs ≡ false
  none_later t k [] all = refl
  none_later t k (x ∷ xs) all = let above : k < key x = all.0 in let rest = none_later t k xs all.1 in grind (arith, nat_tests)

  -- what one of the key passes is what the one that is found passes
  pub at_once : (t : X → Bool) (k : ℕ) (xs : List X) → IsRising key xs → list_any (λ x. eqb (key x) k && t x) xs ≡ option_map_or t (at_key key k xs) false
  at_once t k [] up = refl
  at_once t k (x ∷ xs) up = go (eqb (key x) k) refl (at_once t k xs up.1)
    where
      go : (b : Bool) → eqb (key x) k ≡ b → list_any (λ y. eqb (key y) k && t y) xs ≡ option_map_or t (at_key key k xs) false
          → list_any (λ y. eqb (key y) k && t y) (x ∷ xs) ≡ option_map_or t (at_key key k (x ∷ xs)) false
      go true e rec =
          let same : key x ≡ k = eqb-true (key x) k e in
          let none : list_any (λ y. eqb (key y) k && t y) xs ≡ false = none_later t k xs (subst (λ n. AllByRecursion (λ y. n < key y) xs) same up.0) in
          rw (e, none) (grind arith)
      go false e rec = rw e rec

  -- the key of an element stands in none before it
  pub absent_before : (xs : List X) (i : ℕ) (d : X) → IsRising key xs → i < length xs → at_key key (key (get_or xs i d)) (take i xs) ≡ None
  absent_before [] i d up within = absurd (omega arith)
  absent_before (x ∷ xs) zero d up within = refl
  absent_before (x ∷ xs) (suc i) d up within =
      let below : key x < key (get_or xs i d) = All-from_recursion (λ y. key x < key y) xs up.0 i d (omega arith) in
      rw (ne_eqb (key x) (key (get_or xs i d)) (λ e. omega arith)) (absent_before xs i d up.1 (omega arith))

  -- whether a key is there
  pub some_any : (k : ℕ) (xs : List X) → is_some (at_key key k xs) ≡ list_any (λ x. eqb (key x) k) xs
  some_any k [] = refl
  some_any k (x ∷ xs) = let rest = some_any k xs in grind (arith, nat_tests)

  -- whether a key is there, from the keys alone
  pub some_key : (k : ℕ) (xs : List X) → is_some (at_key key k xs) ≡ list_any (λ n. eqb n k) (map key xs)
  some_key k [] = refl
  some_key k (x ∷ xs) = let rest = some_key k xs in grind (arith, nat_tests)

-- one more element that is looked for
pub find-step : {X : Type 0} (t : X → Bool) (xs : List X) (i : ℕ) (x d : X) → i < length xs → x ≡ get_or xs i d → list_any t (take (i + 1) xs) ≡ (list_any t (take i xs) || t x)
find-step t xs i x d within is = list_any_more t xs i d within ∙ ap (λ y. list_any t (take i xs) || t y) (sym is)

-- one more element is marked if it passes
pub mark-step : {X : Type 0} (t : X → Bool) (xs : List X) (i : ℕ) (x d : X) → i < length xs → x ≡ get_or xs i d → (was old new : Bool)
    → old ≡ (was || list_any t (take i xs)) → new ≡ (old || t x) → new ≡ (was || list_any t (take (i + 1) xs))
mark-step t xs i x d within is was old new before one = rw (find-step t xs i x d within is, one, before) (moved was (list_any t (take i xs)) (t x))
  where
    moved : (a b c : Bool) → ((a || b) || c) ≡ (a || (b || c))
    moved a b c = grind arith

module _ {X Y : Type 0} (f : X → ℕ) (g : Y → ℕ) where
  all_keys : (k : ℕ) (xs : List X) (ys : List Y) → map f xs ≡ map g ys → AllByRecursion (λ x. k < f x) xs → AllByRecursion (λ y. k < g y) ys
  all_keys k [] [] e all = tt
  all_keys k [] (y ∷ ys) e all = absurd (cc)
  all_keys k (x ∷ xs) [] e all = tt
  all_keys k (x ∷ xs) (y ∷ ys) e all =
      let here : f x ≡ g y = cc in let rest : map f xs ≡ map g ys = cc in
      (subst (λ n. k < n) here all.0, all_keys k xs ys rest all.1)

  -- lists with the same keys rise alike
  pub rising_keys : (xs : List X) (ys : List Y) → map f xs ≡ map g ys → IsRising f xs → IsRising g ys
  rising_keys [] [] e up = tt
  rising_keys [] (y ∷ ys) e up = absurd (cc)
  rising_keys (x ∷ xs) [] e up = tt
  rising_keys (x ∷ xs) (y ∷ ys) e up =
      let here : f x ≡ g y = cc in let rest : map f xs ≡ map g ys = cc in
      (subst (λ n. AllByRecursion (λ y. n < g y) ys) here (all_keys (f x) xs ys rest up.0), rising_keys xs ys rest up.1)

  -- the same keys are there
  pub same_keys : (k : ℕ) (xs : List X) (ys : List Y) → map f xs ≡ map g ys → is_some (at_key f k xs) ≡ is_some (at_key g k ys)
  same_keys k xs ys e = some_key f k xs ∙ (ap (list_any (λ n. eqb n k)) e ∙ sym (some_key g k ys))

-- the keys after one was put in
map-put : {X : Type 0} (key : X → ℕ) (x : X) (xs : List X) → map key (put key x xs) ≡ put (λ n. n) (key x) (map key xs)
map-put key x [] = refl
map-put key x (y ∷ ys) = let rest = map-put key x ys in grind (arith, nat_tests)

map-without : {X : Type 0} (key : X → ℕ) (k : ℕ) (xs : List X) → map key (without key k xs) ≡ without (λ n. n) k (map key xs)
map-without key k [] = refl
map-without key k (x ∷ xs) = let rest = map-without key k xs in grind (arith, nat_tests)

-- lists with the same keys keep them the same
pub put_keys : {X Y : Type 0} (f : X → ℕ) (g : Y → ℕ) (x : X) (y : Y) (xs : List X) (ys : List Y) → map f xs ≡ map g ys → f x ≡ g y → map f (put f x xs) ≡ map g (put g y ys)
put_keys f g x y xs ys e same = map-put f x xs ∙ (rw (e, same) refl ∙ sym (map-put g y ys))

pub without_keys : {X Y : Type 0} (f : X → ℕ) (g : Y → ℕ) (k : ℕ) (xs : List X) (ys : List Y) → map f xs ≡ map g ys → map f (without f k xs) ≡ map g (without g k ys)
without_keys f g k xs ys e = map-without f k xs ∙ (rw e refl ∙ sym (map-without g k ys))

-- one more of both lists
pub zip-push : {X Y : Type 0} (R : X → Y → Type 0) (xs : List X) (ys : List Y) (x : X) (y : Y) → AllZip R xs ys → R x y → AllZip R (xs ++ x ∷ []) (ys ++ y ∷ [])
zip-push R [] [] x y all one = (one, tt)
zip-push R [] (b ∷ bs) x y all one = absurd all
zip-push R (a ∷ as') [] x y all one = absurd all
zip-push R (a ∷ as') (b ∷ bs) x y all one = (all.0, zip-push R as' bs x y all.1 one)

-- the next of a list is written
module _ {X : Type 0} (R : X → X → Type 0) (xs ys : List X) (i : ℕ) (d new : X) (within : i < length xs) (long : length ys ≡ length xs) (rest : drop i ys ≡ drop i xs) where
  both : get_or ys i d ∷ drop (i + 1) ys ≡ get_or xs i d ∷ drop (i + 1) xs
  both = sym (drop_more ys i d (omega arith)) ∙ (rest ∙ drop_more xs i d within)

  pub written-done : AllZip R (take i xs) (take i ys) → R (get_or ys i d) new → AllZip R (take (i + 1) xs) (take (i + 1) (set ys i new))
  written-done done one =
      let same : get_or ys i d ≡ get_or xs i d = let e = both in cc in
      subst (λ zs. AllZip R zs (take (i + 1) (set ys i new))) (sym (take_more xs i d within))
      (subst (λ zs. AllZip R (take i xs ++ get_or xs i d ∷ []) zs) (sym (take_more_set ys i new (omega arith)))
      (zip-push R (take i xs) (take i ys) (get_or xs i d) new done (subst (λ x. R x new) same one)))

  pub written-rest : drop (i + 1) (set ys i new) ≡ drop (i + 1) xs
  written-rest = drop-set-lt (i + 1) ys i new (omega arith) ∙ (let e = both in cc)

-- ---- the sets that are read

-- one more set is answered
pub one_more_set : (p : LinkSet → Bool) (sets : List LinkSet) (i : ℕ) (s d : LinkSet) (n : ℕ) → IsRising (λ (s : LinkSet). s.id) sets → i < length sets → s ≡ get_or sets i d
    → option_map_or p (set_at (take (i + 1) sets) n) false ≡ cond (eqb n s.id) (p s) (option_map_or p (set_at (take i sets) n) false)
one_more_set p sets i s d n up within is =
    let more : take (i + 1) sets ≡ take i sets ++ s ∷ [] = take_more sets i d within ∙ ap (λ y. take i sets ++ y ∷ []) (sym is) in
    let absent : set_at (take i sets) s.id ≡ None = subst (λ y. set_at (take i sets) y.id ≡ None) (sym is) (absent_before (λ (s : LinkSet). s.id) sets i d up within) in
    ap (λ xs. option_map_or p (set_at xs n) false) more
    ∙ (ap (λ o. option_map_or p o false) (find-append (λ (x : LinkSet). eqb x.id n) (take i sets) (s ∷ []))
    ∙ go (eqb n s.id) refl absent)
  where
    other : (a b : ℕ) → eqb a b ≡ false → eqb b a ≡ false
    other a b e = grind (arith, nat_tests)

    itself : (a b : ℕ) → eqb a b ≡ true → eqb b a ≡ true
    itself a b e = grind (arith, nat_tests)

    right : (o : Option LinkSet) → option_or o None ≡ o
    right None = refl
    right (Some x) = refl

    go : (b : Bool) → eqb n s.id ≡ b → set_at (take i sets) s.id ≡ None → option_map_or p (option_or (set_at (take i sets) n) (cond (eqb s.id n) (Some s) None)) false ≡ cond (eqb n s.id) (p s) (option_map_or p (set_at (take i sets) n) false)
    go true e absent =
        let none : set_at (take i sets) n ≡ None = subst (λ m. set_at (take i sets) m ≡ None) (sym (eqb-true n s.id e)) absent in
        rw (e, itself n s.id e, none) refl
    go false e absent = rw (e, other n s.id e, right (set_at (take i sets) n)) refl

-- ---- readers

-- readers of plans have their destinations
pub readers-planned : (points : List Point) (sets : List LinkSet) (plans : List Plan) (readers : List Reader) → AllZip (IsReaderOf points sets) plans readers → map (λ (r : Reader). r.dest) readers ≡ map (λ (p : Plan). p.dest) plans
readers-planned points sets [] [] all = refl
readers-planned points sets [] (r ∷ rs) all = absurd all
readers-planned points sets (p ∷ ps) [] all = absurd all
readers-planned points sets (p ∷ ps) (r ∷ rs) all = let here = all.0.dest in let rest = readers-planned points sets ps rs all.1 in cc

-- readers of plans tell what the plans read
pub readers-reads : (points : List Point) (sets : List LinkSet) (plans : List Plan) (readers : List Reader) (x n : ℕ) → AllZip (IsReaderOf points sets) plans readers
    → reads_among readers x n ≡ option_map_or (λ plan. option_map_or (is_read_by points plan) (set_at sets n) false) (plan_at plans x) false
readers-reads points sets [] [] x n all = refl
readers-reads points sets [] (r ∷ rs) x n all = absurd all
readers-reads points sets (p ∷ ps) [] x n all = absurd all
readers-reads points sets (p ∷ ps) (r ∷ rs) x n all =
    ap (λ m. option_map_or (λ (r : Reader). is_marked r.ids n) (cond (eqb m x) (Some r) (at_key (λ (r : Reader). r.dest) x rs)) false) all.0.dest
    ∙ (go (eqb p.dest x) (readers-reads points sets ps rs x n all.1))
  where
    go : (b : Bool) → reads_among rs x n ≡ option_map_or (λ plan. option_map_or (is_read_by points plan) (set_at sets n) false) (plan_at ps x) false
        → option_map_or (λ (r : Reader). is_marked r.ids n) (cond b (Some r) (at_key (λ (r : Reader). r.dest) x rs)) false
        ≡ option_map_or (λ plan. option_map_or (is_read_by points plan) (set_at sets n) false) (cond b (Some p) (plan_at ps x)) false
    go true rest = all.0.ids n
    go false rest = rest

-- readers with the answers to one set have their destinations
pub with_id-planned : (id : ℕ) (test : ℕ → Bool) (old new : List Reader) → AllZip (IsWithId id test) old new → map (λ (r : Reader). r.dest) new ≡ map (λ (r : Reader). r.dest) old
with_id-planned id test [] [] all = refl
with_id-planned id test [] (r ∷ rs) all = absurd all
with_id-planned id test (p ∷ ps) [] all = absurd all
with_id-planned id test (p ∷ ps) (r ∷ rs) all = let here = all.0.dest in let rest = with_id-planned id test ps rs all.1 in cc

-- and tell them
pub with_id-reads : (id : ℕ) (test : ℕ → Bool) (old new : List Reader) (x n : ℕ) → AllZip (IsWithId id test) old new
    → reads_among new x n ≡ cond (eqb n id) (is_some (at_key (λ (r : Reader). r.dest) x old) && test x) (reads_among old x n)
with_id-reads id test [] [] x n all = grind arith
with_id-reads id test [] (r ∷ rs) x n all = absurd all
with_id-reads id test (p ∷ ps) [] x n all = absurd all
with_id-reads id test (p ∷ ps) (r ∷ rs) x n all =
    ap (λ m. option_map_or (λ (r : Reader). is_marked r.ids n) (cond (eqb m x) (Some r) (at_key (λ (r : Reader). r.dest) x rs)) false) all.0.dest
    ∙ (go (eqb p.dest x) refl (with_id-reads id test ps rs x n all.1))
  where
    go : (b : Bool) → eqb p.dest x ≡ b → reads_among rs x n ≡ cond (eqb n id) (is_some (at_key (λ (r : Reader). r.dest) x ps) && test x) (reads_among ps x n)
        → option_map_or (λ (r : Reader). is_marked r.ids n) (cond b (Some r) (at_key (λ (r : Reader). r.dest) x rs)) false
        ≡ cond (eqb n id) (is_some (cond b (Some p) (at_key (λ (r : Reader). r.dest) x ps)) && test x) (option_map_or (λ (r : Reader). is_marked r.ids n) (cond b (Some p) (at_key (λ (r : Reader). r.dest) x ps)) false)
    go true e rest = all.0.ids n ∙ rw (eqb-true p.dest x e) refl
    go false e rest = rest

-- what a test of the destinations tells of one that is planned
pub tested : (test : ℕ → Bool) (x : ℕ) (readers : List Reader) → option_map_or (λ (r : Reader). test r.dest) (at_key (λ (r : Reader). r.dest) x readers) false ≡ (is_some (at_key (λ (r : Reader). r.dest) x readers) && test x)
tested test x [] = refl
tested test x (r ∷ rs) = go (eqb r.dest x) refl (tested test x rs)
  where
    go : (b : Bool) → eqb r.dest x ≡ b → option_map_or (λ (r : Reader). test r.dest) (at_key (λ (r : Reader). r.dest) x rs) false ≡ (is_some (at_key (λ (r : Reader). r.dest) x rs) && test x)
        → option_map_or (λ (r : Reader). test r.dest) (cond b (Some r) (at_key (λ (r : Reader). r.dest) x rs)) false ≡ (is_some (cond b (Some r) (at_key (λ (r : Reader). r.dest) x rs)) && test x)
    go true e rest = ap test (eqb-true r.dest x e)
    go false e rest = rest

-- a set that would be read has a planned reader
pub planned_test : (plans : List Plan) (readers : List Reader) (p : Plan → Bool) (x : ℕ) → map (λ (r : Reader). r.dest) readers ≡ map (λ (p : Plan). p.dest) plans
    → (is_some (at_key (λ (r : Reader). r.dest) x readers) && option_map_or p (plan_at plans x) false) ≡ option_map_or p (plan_at plans x) false
planned_test plans readers p x e = go (is_some (at_key (λ (r : Reader). r.dest) x readers)) (plan_at plans x) (same_keys (λ (r : Reader). r.dest) (λ (p : Plan). p.dest) x readers plans e)
  where
    go : (b : Bool) (o : Option Plan) → b ≡ is_some o → (b && option_map_or p o false) ≡ option_map_or p o false
    go b None e = grind arith
    go b (Some q) e = rw e refl
