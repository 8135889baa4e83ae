-- Ranks and valid plans.
use Rattle.std.proofs.Common.{if◌then◌else◌, ◌≡◌, ℕ, zero, suc, ◌+◌, ◌<◌, ◌≤◌, Bool, true, false, not, ◌&&◌, eqb, ltb, leb, Option, Some, None, List, [], ◌∷◌, ◌++◌, length, map, get_or, refl, ap, ◌∙◌, arith, ⊎_elim}
use Rattle.std.specs.List.{AllByRecursion, flat_map, list_all, list_any, position_or_len}
use Rattle.std.specs.Option.{option_map_or}
use Rattle.std.proofs.lemmas.Bool.{and_parts, and_from, or_cases, eqb-true, eq-eqb, ne_eqb, lt-ltb, ltb-true, le-leb, leb-true, not_from_true}
use Rattle.std.proofs.lemmas.List.{length-map}
use Rattle.std.proofs.lemmas.List.Elements.{All-from_recursion, recursion_from_All}
use Rattle.net_items.specs.declared.items.Point.{Point}
use Rattle.net_items.specs.declared.items.LinkSet.{LinkSet}
use Rattle.net_items.specs.declared.items.Plan.{Plan}
use Rattle.net_items.specs.declared.lists.Row.{Row}
use Rattle.net_items.specs.Keyed.{IsRising}
use Rattle.net_items.specs.Lookups.{is_stp, mate_of, adjacent}
use Rattle.plan_rows.specs.Rows.{is_lower, has_lower_row, has_equal_row, has_mate_row, is_small_class}
use Rattle.net_data.specs.Valid.{IsRightRow, IsRightPlan}
use Rattle.plan_ranks.specs.declared.needs.Need.{Need}
use Rattle.plan_ranks.specs.Ranks.{IsMet, IsRanked, IsLeast, need, place_of, via_needs, mate_needs, row_needs, needs_from, needs_of, with_ranks}

-- the place of the first row of a point, or their number
abbrev pub first_of : List Row → ℕ → ℕ
first_of rows z = position_or_len (λ (r : Row). eqb r.point z) rows

-- ---- rows of one point in rising code

none_later : (t : Row → Bool) (z : ℕ) (x : Row) (rs : List Row) → eqb x.point z ≡ true → AllByRecursion (λ (y : Row). x.point < y.point) rs → list_any (λ (o : Row). eqb o.point z && t o) rs ≡ false
none_later t z x [] e up = refl
none_later t z x (r ∷ rs) e up =
    let same : x.point ≡ z = eqb-true x.point z e in
    let above : x.point < r.point = up.0 in
    let off : eqb r.point z ≡ false = ne_eqb r.point z (λ q. omega arith) in
    rw off (none_later t z x rs e up.1)

-- what holds of the rank of some row of a point holds of that of the first
tested_at : (t : ℕ → Bool) (rows : List Row) (z : ℕ) → IsRising (λ (r : Row). r.point) rows → list_any (λ (o : Row). eqb o.point z && t o.rank) rows ≡ true → t (get_or (map (λ (r : Row). r.rank) rows) (first_of rows z) 0) ≡ true
tested_at t [] z up h = absurd (cc)
tested_at t (r ∷ rs) z up h = go (eqb r.point z) refl (tested_at t rs z up.1)
  where
    go : (b : Bool) → eqb r.point z ≡ b → (list_any (λ (o : Row). eqb o.point z && t o.rank) rs ≡ true → t (get_or (map (λ (r : Row). r.rank) rs) (first_of rs z) 0) ≡ true)
        → t (get_or (map (λ (r : Row). r.rank) (r ∷ rs)) (first_of (r ∷ rs) z) 0) ≡ true
    go true e next =
        let none = none_later (λ (o : Row). t o.rank) z r rs e up.0 in
        let here : t r.rank ≡ true = ⊎_elim (λ q. q) (λ q. absurd (cc (q, none))) (or_cases (t r.rank) (list_any (λ (o : Row). eqb o.point z && t o.rank) rs) (rw e at h)) in
        rw e here
    go false e next =
        let one : 1 + first_of rs z ≡ suc (first_of rs z) = omega arith in
        let later : list_any (λ (o : Row). eqb o.point z && t o.rank) rs ≡ true = rw e at h in
        rw e (rw one (next later))

some_first : (s : Row → Bool) (rows : List Row) (z : ℕ) → list_any (λ (o : Row). eqb o.point z && s o) rows ≡ true → first_of rows z < length rows
some_first s [] z h = absurd (cc)
some_first s (r ∷ rs) z h = go (eqb r.point z) refl (some_first s rs z)
  where
    go : (b : Bool) → eqb r.point z ≡ b → (list_any (λ (o : Row). eqb o.point z && s o) rs ≡ true → first_of rs z < length rs) → first_of (r ∷ rs) z < length (r ∷ rs)
    go true e next = rw e (omega arith)
    go false e next = let later = next (rw e at h) in rw e (omega arith)

some_place : (s : Row → Bool) (rows : List Row) (z : ℕ) → list_any (λ (o : Row). eqb o.point z && s o) rows ≡ true → place_of rows z ≡ Some (first_of rows z)
some_place s rows z h = rw (lt-ltb (first_of rows z) (length rows) (some_first s rows z h)) refl

place_first : (rows : List Row) (z j : ℕ) → place_of rows z ≡ Some j → j ≡ first_of rows z
place_first rows z j e = go (ltb (first_of rows z) (length rows)) refl
  where
    go : (b : Bool) → ltb (first_of rows z) (length rows) ≡ b → j ≡ first_of rows z
    go true t = let same : ◌≡◌ {A = Option ℕ} (Some (first_of rows z)) (Some j) = rw t at e in cc
    go false t = let none : ◌≡◌ {A = Option ℕ} None (Some j) = rw t at e in absurd (cc)

-- a rank that is given to the first row of a point
made_at : (t : ℕ → Bool) (s : Row → Bool) (rows : List Row) (ranks : List ℕ) (z : ℕ) → length ranks ≡ length rows → list_any (λ (o : Row). eqb o.point z && s o) rows ≡ true → t (get_or ranks (first_of rows z) 0) ≡ true
    → list_any (λ (o : Row). eqb o.point z && t o.rank) (with_ranks rows ranks) ≡ true
made_at t s [] ranks z many h k = absurd (cc)
made_at t s (r ∷ rs) [] z many h k = absurd (omega arith)
made_at t s (r ∷ rs) (n ∷ ns) z many h k = go (eqb r.point z) refl (made_at t s rs ns z (omega arith))
  where
    go : (b : Bool) → eqb r.point z ≡ b → (list_any (λ (o : Row). eqb o.point z && s o) rs ≡ true → t (get_or ns (first_of rs z) 0) ≡ true → list_any (λ (o : Row). eqb o.point z && t o.rank) (with_ranks rs ns) ≡ true)
        → list_any (λ (o : Row). eqb o.point z && t o.rank) (with_ranks (r ∷ rs) (n ∷ ns)) ≡ true
    go true e next = let here : t n ≡ true = rw e at k in rw e (rw here refl)
    go false e next =
        let one : 1 + first_of rs z ≡ suc (first_of rs z) = omega arith in
        let at : t (get_or (n ∷ ns) (1 + first_of rs z) 0) ≡ true = rw e at k in
        rw e (next (rw e at h) (rw one at at))

-- ---- lists

split_all : {X : Type 0} (P : X → Type 0) (xs ys : List X) → AllByRecursion P (xs ++ ys) → AllByRecursion P xs × AllByRecursion P ys
split_all P [] ys h = (tt, h)
split_all P (x ∷ xs) ys h = let rest = split_all P xs ys h.1 in ((h.0, rest.0), rest.1)

join_all : {X : Type 0} (P : X → Type 0) (xs ys : List X) → AllByRecursion P xs → AllByRecursion P ys → AllByRecursion P (xs ++ ys)
join_all P [] ys a b = b
join_all P (x ∷ xs) ys a b = (a.0, join_all P xs ys a.1 b)

flat_met : {X : Type 0} (P : Need → Type 0) (p : X → Bool) (f : X → List Need) → ((x : X) → p x ≡ true → AllByRecursion P (f x)) → (xs : List X) → list_all p xs ≡ true → AllByRecursion P (flat_map f xs)
flat_met P p f h [] all = tt
flat_met P p f h (x ∷ xs) all = let parts = and_parts (p x) (list_all p xs) all in join_all P (f x) (flat_map f xs) (h x parts.0) (flat_met P p f h xs parts.1)

met_all : {X : Type 0} (P : Need → Type 0) (p q : X → Bool) (f : X → List Need) → ((x : X) → p x ≡ true → AllByRecursion P (f x) → q x ≡ true) → (xs : List X) → list_all p xs ≡ true → AllByRecursion P (flat_map f xs) → list_all q xs ≡ true
met_all P p q f h [] all met = refl
met_all P p q f h (x ∷ xs) all met =
    let parts = and_parts (p x) (list_all p xs) all in
    let mets = split_all P (f x) (flat_map f xs) met in
    and_from (q x) (list_all q xs) (h x parts.0 mets.0) (met_all P p q f h xs parts.1 mets.1)

not_false : (b : Bool) → not b ≡ false → b ≡ true
not_false true h = refl
not_false false h = absurd (cc)

-- the ranks from a place on are those
abbrev AreFrom : List ℕ → ℕ → List ℕ → Type 0
AreFrom ranks i ks = (j : ℕ) → get_or ranks (i + j) 0 ≡ get_or ks j 0

first_from : (ranks : List ℕ) (i k : ℕ) (ks : List ℕ) → AreFrom ranks i (k ∷ ks) → get_or ranks i 0 ≡ k
first_from ranks i k ks h = let same : i ≡ i + 0 = omega arith in ap (λ n. get_or ranks n 0) same ∙ h 0

next_from : (ranks : List ℕ) (i k : ℕ) (ks : List ℕ) → AreFrom ranks i (k ∷ ks) → AreFrom ranks (i + 1) ks
next_from ranks i k ks h = λ j. let same : i + 1 + j ≡ i + suc j = omega arith in ap (λ n. get_or ranks n 0) same ∙ h (suc j)

all_from : (ranks : List ℕ) → AreFrom ranks 0 ranks
all_from ranks = λ j. let same : 0 + j ≡ j = omega arith in ap (λ n. get_or ranks n 0) same

abbrev ranks_of : List Row → List ℕ
ranks_of rows = map (λ (r : Row). r.rank) rows

module _ (points : List Point) (sets : List LinkSet) (dest : ℕ) (rows : List Row) (up : IsRising (λ (r : Row). r.point) rows) where
  -- what a row of the same rank as its mate's has
  equal_of : (r : Row) (m : ℕ) → mate_of points r.point ≡ Some m → has_mate_row points sets dest rows r ≡ true → (is_stp points r.point ≡ true) × (adjacent sets r.point m ≡ true) × (not (eqb m dest) ≡ true) × (has_equal_row rows m r.rank ≡ true)
  equal_of r m e h =
      let outer = and_parts (is_stp points r.point) (option_map_or (λ m. adjacent sets r.point m && (not (eqb m dest) && has_equal_row rows m r.rank)) (mate_of points r.point) false) h in
      let inner = and_parts (adjacent sets r.point m) (not (eqb m dest) && has_equal_row rows m r.rank) (rw e at outer.1) in
      let last = and_parts (not (eqb m dest)) (has_equal_row rows m r.rank) inner.1 in
      (outer.0, inner.0, last.0, last.1)

  -- ---- the ranks of right rows meet their needs

  via_met : (i : ℕ) (r : Row) → get_or (ranks_of rows) i 0 ≡ r.rank → (z : ℕ) → is_lower points dest rows r z ≡ true → AllByRecursion (IsMet (ranks_of rows)) (via_needs rows dest i z)
  via_met i r at z h = go (eqb z dest) refl
    where
      found : (o : Option ℕ) → place_of rows z ≡ o → has_lower_row rows z r.rank ≡ true → AllByRecursion (IsMet (ranks_of rows)) (option_map_or (λ j. need i j 1 ∷ []) o [])
      found None p lower = tt
      found (Some j) p lower =
          let below : get_or (ranks_of rows) (first_of rows z) 0 < r.rank = ltb-true _ _ (tested_at (λ n. ltb n r.rank) rows z up lower) in
          let same = place_first rows z j p in
          (rw (same, at) (omega (arith, below)), tt)

      go : (b : Bool) → eqb z dest ≡ b → AllByRecursion (IsMet (ranks_of rows)) (via_needs rows dest i z)
      go true e = rw e tt
      go false e = let parts = and_parts (is_stp points z) (has_lower_row rows z r.rank) (rw e at h) in rw e (found (place_of rows z) refl parts.1)

  mate_met : (i : ℕ) (r : Row) → get_or (ranks_of rows) i 0 ≡ r.rank → (r.mate && not (has_mate_row points sets dest rows r)) ≡ false
      → AllByRecursion (IsMet (ranks_of rows)) (if r.mate then option_map_or (mate_needs rows i) (mate_of points r.point) [] else [])
  mate_met i r at h = flag r.mate refl
    where
      found : (m : ℕ) (o : Option ℕ) → place_of rows m ≡ o → has_equal_row rows m r.rank ≡ true → AllByRecursion (IsMet (ranks_of rows)) (option_map_or (λ j. need i j 0 ∷ need j i 0 ∷ []) o [])
      found m None p equal = tt
      found m (Some j) p equal =
          let level : get_or (ranks_of rows) (first_of rows m) 0 ≡ r.rank = eqb-true _ _ (tested_at (λ n. eqb n r.rank) rows m up equal) in
          let same = place_first rows m j p in
          (rw (same, at) (omega (arith, level)), (rw (same, at) (omega (arith, level)), tt))

      mate : (o : Option ℕ) → mate_of points r.point ≡ o → has_mate_row points sets dest rows r ≡ true → AllByRecursion (IsMet (ranks_of rows)) (option_map_or (mate_needs rows i) o [])
      mate None e has = tt
      mate (Some m) e has = let parts = equal_of r m e has in found m (place_of rows m) refl parts.3

      flag : (b : Bool) → r.mate ≡ b → AllByRecursion (IsMet (ranks_of rows)) (if b then option_map_or (mate_needs rows i) (mate_of points r.point) [] else [])
      flag true e = mate (mate_of points r.point) refl (not_false (has_mate_row points sets dest rows r) (rw e at h))
      flag false e = tt

  rows_met : (i : ℕ) (rs : List Row) → AreFrom (ranks_of rows) i (ranks_of rs) → AllByRecursion (IsRightRow points sets dest rows) rs → AllByRecursion (IsMet (ranks_of rows)) (needs_from points dest rows i rs)
  rows_met i [] from right = tt
  rows_met i (r ∷ rs) from right =
      let here : IsRightRow points sets dest rows r = right.0 in
      let at = first_from (ranks_of rows) i r.rank (ranks_of rs) from in
      join_all (IsMet (ranks_of rows)) (row_needs points dest rows i r) (needs_from points dest rows (i + 1) rs)
      (join_all (IsMet (ranks_of rows)) (flat_map (λ vias. flat_map (via_needs rows dest i) vias) r.classes) _
      (flat_met (IsMet (ranks_of rows)) (λ vias. list_all (is_lower points dest rows r) vias) (λ vias. flat_map (via_needs rows dest i) vias)
      (λ vias all. flat_met (IsMet (ranks_of rows)) (is_lower points dest rows r) (via_needs rows dest i) (via_met i r at) vias all) r.classes here.vias_lower)
      (mate_met i r at here.mate_right))
      (rows_met (i + 1) rs (next_from (ranks_of rows) i r.rank (ranks_of rs) from) right.1)

  in_range : (rs : List Row) → AllByRecursion (IsRightRow points sets dest rows) rs → AllByRecursion (λ n. 0 < n) (ranks_of rs) × AllByRecursion (λ n. n ≤ 255) (ranks_of rs)
  in_range [] right = (tt, tt)
  in_range (r ∷ rs) right =
      let here : IsRightRow points sets dest rows r = right.0 in
      let small = and_parts (not (eqb r.rank 0) && leb r.rank 255) (leb (length r.classes) 4 && list_all is_small_class r.classes) here.small in
      let rank = and_parts (not (eqb r.rank 0)) (leb r.rank 255) small.0 in
      let rest = in_range rs right.1 in
      let most : r.rank ≤ 255 = leb-true r.rank 255 rank.1 in
      ((some r.rank rank.0, rest.0), (most, rest.1))
    where
      some : (n : ℕ) → not (eqb n 0) ≡ true → 0 < n
      some zero h = absurd (cc)
      some (suc n) h = omega arith

  -- ---- least ranks of right rows make right rows

  module _ (ranks : List ℕ) (many : length ranks ≡ length rows) where
    via_lower : (i : ℕ) (r : Row) (k : ℕ) → get_or ranks i 0 ≡ k → (z : ℕ) → is_lower points dest rows r z ≡ true → AllByRecursion (IsMet ranks) (via_needs rows dest i z) → is_lower points dest (with_ranks rows ranks) (record r { rank = k }) z ≡ true
    via_lower i r k at z h met = go (eqb z dest) refl
      where
        go : (b : Bool) → eqb z dest ≡ b → is_lower points dest (with_ranks rows ranks) (record r { rank = k }) z ≡ true
        go true e = rw e refl
        go false e =
            let parts = and_parts (is_stp points z) (has_lower_row rows z r.rank) (rw e at h) in
            let place = some_place (λ (o : Row). ltb o.rank r.rank) rows z parts.1 in
            let told : AllByRecursion (IsMet ranks) (need i (first_of rows z) 1 ∷ []) = rw place at (rw e at met) in
            let below : get_or ranks (first_of rows z) 0 + 1 ≤ get_or ranks i 0 = told.0 in
            let lower = made_at (λ n. ltb n k) (λ (o : Row). ltb o.rank r.rank) rows ranks z many parts.1 (lt-ltb (get_or ranks (first_of rows z) 0) k (omega arith)) in
            rw e (and_from (is_stp points z) (has_lower_row (with_ranks rows ranks) z k) parts.0 lower)

    mate_level : (i : ℕ) (r : Row) (k : ℕ) → get_or ranks i 0 ≡ k → (r.mate && not (has_mate_row points sets dest rows r)) ≡ false
        → AllByRecursion (IsMet ranks) (if r.mate then option_map_or (mate_needs rows i) (mate_of points r.point) [] else []) → (r.mate && not (has_mate_row points sets dest (with_ranks rows ranks) (record r { rank = k }))) ≡ false
    mate_level i r k at h met = flag r.mate refl
      where
        level : (m : ℕ) → mate_of points r.point ≡ Some m → has_mate_row points sets dest rows r ≡ true → AllByRecursion (IsMet ranks) (mate_needs rows i m) → has_mate_row points sets dest (with_ranks rows ranks) (record r { rank = k }) ≡ true
        level m e has met =
            let parts = equal_of r m e has in
            let place = some_place (λ (o : Row). eqb o.rank r.rank) rows m parts.3 in
            let told : AllByRecursion (IsMet ranks) (need i (first_of rows m) 0 ∷ need (first_of rows m) i 0 ∷ []) = rw place at met in
            let one : get_or ranks (first_of rows m) 0 + 0 ≤ get_or ranks i 0 = told.0 in
            let two : get_or ranks i 0 + 0 ≤ get_or ranks (first_of rows m) 0 = told.1.0 in
            let equal = made_at (λ n. eqb n k) (λ (o : Row). eqb o.rank r.rank) rows ranks m many parts.3 (eq-eqb (get_or ranks (first_of rows m) 0) k (omega arith)) in
            and_from (is_stp points r.point) _ parts.0 (rw e (and_from (adjacent sets r.point m) _ parts.1 (and_from (not (eqb m dest)) _ parts.2 equal)))

        mate : (o : Option ℕ) → mate_of points r.point ≡ o → has_mate_row points sets dest rows r ≡ true → AllByRecursion (IsMet ranks) (option_map_or (mate_needs rows i) o []) → has_mate_row points sets dest (with_ranks rows ranks) (record r { rank = k }) ≡ true
        mate None e has met = let outer = and_parts (is_stp points r.point) _ has in absurd (cc (rw e at outer.1))
        mate (Some m) e has met = level m e has met

        flag : (b : Bool) → r.mate ≡ b → (r.mate && not (has_mate_row points sets dest (with_ranks rows ranks) (record r { rank = k }))) ≡ false
        flag true e = rw e (not_from_true _ (mate (mate_of points r.point) refl (not_false (has_mate_row points sets dest rows r) (rw e at h)) (rw e at met)))
        flag false e = rw e refl

    row_right : (i : ℕ) (r : Row) (k : ℕ) → get_or ranks i 0 ≡ k → 0 < k → k ≤ 255 → IsRightRow points sets dest rows r → AllByRecursion (IsMet ranks) (row_needs points dest rows i r)
        → IsRightRow points sets dest (with_ranks rows ranks) (record r { rank = k })
    row_right i r k at some most right met =
        let none : eqb k 0 ≡ false = ne_eqb k 0 (λ e. omega arith) in
        let needs = split_all (IsMet ranks) (flat_map (λ vias. flat_map (via_needs rows dest i) vias) r.classes) _ met in
        let small = and_parts (not (eqb r.rank 0) && leb r.rank 255) (leb (length r.classes) 4 && list_all is_small_class r.classes) right.small in
        record {
          is_there = right.is_there;
          small = and_from (not (eqb k 0) && leb k 255) _ (and_from (not (eqb k 0)) (leb k 255) (ap not none) (le-leb k 255 most)) small.1;
          not_dest = right.not_dest;
          vias_joined = right.vias_joined;
          vias_once = right.vias_once;
          vias_lower = met_all (IsMet ranks) (λ vias. list_all (is_lower points dest rows r) vias) (λ vias. list_all (is_lower points dest (with_ranks rows ranks) (record r { rank = k })) vias) (λ vias. flat_map (via_needs rows dest i) vias)
              (λ vias all mets. met_all (IsMet ranks) (is_lower points dest rows r) (is_lower points dest (with_ranks rows ranks) (record r { rank = k })) (via_needs rows dest i) (via_lower i r k at) vias all mets) r.classes right.vias_lower needs.0;
          vias_not_mate = right.vias_not_mate;
          mate_right = mate_level i r k at right.mate_right needs.1;
          has_route = right.has_route;
        }

    rows_right : (i : ℕ) (rs : List Row) (ks : List ℕ) → length ks ≡ length rs → AreFrom ranks i ks → AllByRecursion (λ n. 0 < n) ks → AllByRecursion (λ n. n ≤ 255) ks → AllByRecursion (IsRightRow points sets dest rows) rs
        → AllByRecursion (IsMet ranks) (needs_from points dest rows i rs) → AllByRecursion (IsRightRow points sets dest (with_ranks rows ranks)) (with_ranks rs ks)
    rows_right i [] ks same from some most right met = tt
    rows_right i (r ∷ rs) [] same from some most right met = absurd (omega arith)
    rows_right i (r ∷ rs) (k ∷ ks) same from some most right met =
        let needs = split_all (IsMet ranks) (row_needs points dest rows i r) (needs_from points dest rows (i + 1) rs) met in
        (row_right i r k (first_from ranks i k ks from) some.0 most.0 right.0 needs.0, rows_right (i + 1) rs ks (omega arith) (next_from ranks i k ks from) some.1 most.1 right.1 needs.1)

-- rows in rising code stay so
above_ranked : (n : ℕ) (rows : List Row) (ranks : List ℕ) → AllByRecursion (λ (y : Row). n < y.point) rows → AllByRecursion (λ (y : Row). n < y.point) (with_ranks rows ranks)
above_ranked n [] ranks h = tt
above_ranked n (r ∷ rs) [] h = h
above_ranked n (r ∷ rs) (k ∷ ks) h = (h.0, above_ranked n rs ks h.1)

rising_ranked : (rows : List Row) (ranks : List ℕ) → IsRising (λ (r : Row). r.point) rows → IsRising (λ (r : Row). r.point) (with_ranks rows ranks)
rising_ranked [] ranks up = tt
rising_ranked (r ∷ rs) [] up = up
rising_ranked (r ∷ rs) (k ∷ ks) up = (above_ranked r.point rs ks up.0, rising_ranked rs ks up.1)

-- the ranks of a right plan are ranks of its rows
pub right_ranked : (points : List Point) (sets : List LinkSet) (p : Plan) → IsRightPlan points sets p → IsRanked points p.dest p.rows (map (λ (r : Row). r.rank) p.rows)
right_ranked points sets p right =
    let range = in_range points sets p.dest p.rows right.rows_rise p.rows right.rows_right in
    record {
      each = length-map p.rows (λ (r : Row). r.rank);
      from_one = All-from_recursion (λ n. 0 < n) (ranks_of p.rows) range.0;
      to_255 = All-from_recursion (λ n. n ≤ 255) (ranks_of p.rows) range.1;
      met = All-from_recursion (IsMet (ranks_of p.rows)) (needs_of points p.dest p.rows) (rows_met points sets p.dest p.rows right.rows_rise 0 p.rows (all_from (ranks_of p.rows)) right.rows_right);
    }

-- with the least ranks it is a right plan too
pub least_right : (points : List Point) (sets : List LinkSet) (p : Plan) (ranks : List ℕ) → IsRightPlan points sets p → IsLeast points p.dest p.rows ranks → IsRightPlan points sets (record p { rows = with_ranks p.rows ranks })
least_right points sets p ranks right least =
    let h = least.ranked in
    record {
      is_there = right.is_there;
      rows_rise = rising_ranked p.rows ranks right.rows_rise;
      rows_right = rows_right points sets p.dest p.rows right.rows_rise ranks h.each 0 p.rows ranks h.each (all_from ranks) (recursion_from_All (λ n. 0 < n) ranks h.from_one) (recursion_from_All (λ n. n ≤ 255) ranks h.to_255) right.rows_right
          (recursion_from_All (IsMet ranks) (needs_of points p.dest p.rows) h.met);
    }
