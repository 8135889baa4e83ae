-- The rows of plans, from their ways.
use Rattle.std.proofs.Common.{if◌then◌else◌, ◌≡◌, ℕ, zero, suc, ◌+◌, ◌-◌, ◌<◌, Bool, true, false, eqb, Option, Some, None, List, [], ◌∷◌, ◌++◌, length, map, take, drop, get_or, set, refl, ap, sym, ◌∙◌, subst, arith, append_assoc, append-nil, add-one}
use Rattle.std.specs.List.{All, flat_map, position_or_len}
use Rattle.std.specs.Option.{option_map_or}
use Rattle.std.proofs.Math.Seq.{take-add}
use Rattle.std.proofs.lemmas.List.{take_all, length-drop}
use Rattle.std.proofs.lemmas.Grind.{flat_map-append}
use Rattle.net_items.specs.declared.lists.Row.{Row}
use Rattle.net_sheets.specs.declared.routes.Route.{Route}
use Rattle.net_sheets.specs.declared.routes.Route.TheVariants.{Via}
use Rattle.net_items.specs.declared.items.Point.{Point}
use Rattle.net_items.specs.Lookups.{mate_of}
use Rattle.plan_ranks.specs.Ranks.{IsMet, IsLeast, need, place_of, via_needs, mate_needs, row_needs, needs_from, needs_of, with_ranks}
use Rattle.net_sheets.specs.Tables.{class_routes, row_routes}

-- the ways of classes and of one more
class_push : (dest y k : ℕ) (classes : List (List ℕ)) (vias : List ℕ) → class_routes dest y k (classes ++ vias ∷ []) ≡ class_routes dest y k classes ++ map (Via dest y (k + length classes)) vias
class_push dest y k [] vias = let same : k ≡ k + 0 = omega arith in append-nil (map (Via dest y k) vias) ∙ ap (λ n. map (Via dest y n) vias) same
class_push dest y k (c ∷ cs) vias =
    let same : k + 1 + length cs ≡ k + length (c ∷ cs) = omega arith in
    ap (λ rs. map (Via dest y k) c ++ rs) (class_push dest y (k + 1) cs vias ∙ ap (λ n. class_routes dest y (k + 1) cs ++ map (Via dest y n) vias) same)
    ∙ sym (append_assoc (map (Via dest y k) c) (class_routes dest y (k + 1) cs) (map (Via dest y (k + length (c ∷ cs))) vias))

pub classes_pushed : (dest y : ℕ) (classes more : List (List ℕ)) (vias : List ℕ) (routes : List Route) (class count n : ℕ) → class_routes dest y 1 classes ≡ take count routes → class ≡ length classes + 1 → n ≡ length vias
    → map (Via dest y class) vias ≡ take (length vias) (drop count routes) → more ≡ classes ++ vias ∷ [] → class_routes dest y 1 more ≡ take (count + n) routes
classes_pushed dest y classes more vias routes class count n before number many next e =
    let same : 1 + length classes ≡ class = omega arith in
    ap (class_routes dest y 1) e ∙ class_push dest y 1 classes vias ∙ ap (λ k. class_routes dest y 1 classes ++ map (Via dest y k) vias) same
    ∙ ap (λ rs. rs ++ map (Via dest y class) vias) before ∙ ap (λ rs. take count routes ++ rs) (next ∙ ap (λ k. take k (drop count routes)) (sym many))
    ∙ sym (take-add count n routes)

-- what was told so far, and one more
pub told_pushed : {X : Type 0} (f : X → List Route) (xs more : List X) (x : X) (routes front : List Route) (at count : ℕ) → front ++ flat_map f xs ≡ take at routes → f x ≡ take count (drop at routes) → more ≡ xs ++ x ∷ []
    → front ++ flat_map f more ≡ take (at + count) routes
told_pushed f xs more x routes front at count before one e =
    ap (λ ys. front ++ flat_map f ys) e ∙ ap (λ rs. front ++ rs) (flat_map-append f xs (x ∷ []) ∙ ap (λ rs. flat_map f xs ++ rs) (append-nil (f x)))
    ∙ sym (append_assoc front (flat_map f xs) (f x)) ∙ ap (λ rs. rs ++ f x) before ∙ ap (λ rs. take at routes ++ rs) one ∙ sym (take-add at count routes)

-- the rest of a list from a place on
pub rest_from : {X : Type 0} (at : ℕ) (xs : List X) → take (length xs - at) (drop at xs) ≡ drop at xs
rest_from at xs = take_all (length xs - at) (drop at xs) (omega (arith, length-drop at xs))

-- ---- ranks

abbrev ranked_by : ℕ → Row → Row
ranked_by rank r = record r { rank = rank }

pub ranked_none : (rows : List Row) → rows ≡ with_ranks rows []
ranked_none [] = refl
ranked_none (r ∷ rs) = refl

ranked_suc : (rows : List Row) (ranks : List ℕ) (i : ℕ) (d : Row) → i < length ranks → length rows ≡ length ranks
    → set (with_ranks rows (take i ranks)) i (ranked_by (get_or ranks i 0) (get_or (with_ranks rows (take i ranks)) i d)) ≡ with_ranks rows (take (suc i) ranks)
ranked_suc [] [] i d here many = absurd (omega arith)
ranked_suc [] (k ∷ ks) i d here many = absurd (omega arith)
ranked_suc (r ∷ rs) [] i d here many = absurd (omega arith)
ranked_suc (r ∷ rs) (k ∷ ks) zero d here many = ap (λ xs. ranked_by k r ∷ xs) (ranked_none rs)
ranked_suc (r ∷ rs) (k ∷ ks) (suc i) d here many = ap (λ xs. ranked_by k r ∷ xs) (ranked_suc rs ks i d (omega arith) (omega arith))

pub ranked_more : (rows now : List Row) (ranks : List ℕ) (i : ℕ) (r : Row) → i < length ranks → length now ≡ length ranks → length rows ≡ length ranks → now ≡ with_ranks rows (take i ranks) → r ≡ get_or now i r
    → set now i (ranked_by (get_or ranks i 0) r) ≡ with_ranks rows (take (i + 1) ranks)
ranked_more rows now ranks i r here long many before is =
    ap (λ x. set now i (ranked_by (get_or ranks i 0) x)) is
    ∙ ap (λ xs. set xs i (ranked_by (get_or ranks i 0) (get_or xs i r))) before
    ∙ ranked_suc rows ranks i r here many
    ∙ ap (λ n. with_ranks rows (take n ranks)) (sym (add-one i))

-- ---- plans

-- the ways of rows don't depend on their ranks
pub ranked_routes : (dest : ℕ) (rows : List Row) (ranks : List ℕ) → flat_map (row_routes dest) (with_ranks rows ranks) ≡ flat_map (row_routes dest) rows
ranked_routes dest [] ranks = refl
ranked_routes dest (r ∷ rs) [] = refl
ranked_routes dest (r ∷ rs) (k ∷ ks) = ap (λ xs. row_routes dest r ++ xs) (ranked_routes dest rs ks)

pub ranked_many : (rows : List Row) (ranks : List ℕ) → length (with_ranks rows ranks) ≡ length rows
ranked_many [] ranks = refl
ranked_many (r ∷ rs) [] = refl
ranked_many (r ∷ rs) (k ∷ ks) = let rest = ranked_many rs ks in omega arith

ranks_given : (rows : List Row) (ranks : List ℕ) → length ranks ≡ length rows → map (λ (r : Row). r.rank) (with_ranks rows ranks) ≡ ranks
ranks_given [] [] same = refl
ranks_given [] (k ∷ ks) same = absurd (omega arith)
ranks_given (r ∷ rs) [] same = absurd (omega arith)
ranks_given (r ∷ rs) (k ∷ ks) same = ap (λ xs. k ∷ xs) (ranks_given rs ks (omega arith))

-- nor do the places of rows
ranked_first : (rows : List Row) (ranks : List ℕ) (z : ℕ) → position_or_len (λ (r : Row). eqb r.point z) (with_ranks rows ranks) ≡ position_or_len (λ (r : Row). eqb r.point z) rows
ranked_first [] ranks z = refl
ranked_first (r ∷ rs) [] z = refl
ranked_first (r ∷ rs) (k ∷ ks) z = go (eqb r.point z) refl (ranked_first rs ks z)
  where
    go : (b : Bool) → eqb r.point z ≡ b → position_or_len (λ (r : Row). eqb r.point z) (with_ranks rs ks) ≡ position_or_len (λ (r : Row). eqb r.point z) rs
        → position_or_len (λ (r : Row). eqb r.point z) (with_ranks (r ∷ rs) (k ∷ ks)) ≡ position_or_len (λ (r : Row). eqb r.point z) (r ∷ rs)
    go true t next = rw t refl
    go false t next = rw t (ap (λ n. 1 + n) next)

ranked_place : (rows : List Row) (ranks : List ℕ) (z : ℕ) → place_of (with_ranks rows ranks) z ≡ place_of rows z
ranked_place rows ranks z = rw (ranked_first rows ranks z, ranked_many rows ranks) refl

flat_same : {X Y : Type 0} (f g : X → List Y) → ((x : X) → f x ≡ g x) → (xs : List X) → flat_map f xs ≡ flat_map g xs
flat_same f g same [] = refl
flat_same f g same (x ∷ xs) = rw (same x, flat_same f g same xs) refl

-- nor do the needs of rows
ranked_via : (rows : List Row) (ranks : List ℕ) (dest i z : ℕ) → via_needs (with_ranks rows ranks) dest i z ≡ via_needs rows dest i z
ranked_via rows ranks dest i z = ap (λ o. if eqb z dest then [] else option_map_or (λ j. need i j 1 ∷ []) o []) (ranked_place rows ranks z)

ranked_mate : (rows : List Row) (ranks : List ℕ) (i m : ℕ) → mate_needs (with_ranks rows ranks) i m ≡ mate_needs rows i m
ranked_mate rows ranks i m = ap (λ o. option_map_or (λ j. need i j 0 ∷ need j i 0 ∷ []) o []) (ranked_place rows ranks m)

ranked_row : (points : List Point) (dest : ℕ) (rows : List Row) (ranks : List ℕ) (i : ℕ) (r : Row) → row_needs points dest (with_ranks rows ranks) i r ≡ row_needs points dest rows i r
ranked_row points dest rows ranks i r =
    ap (λ ns. ns ++ (if r.mate then option_map_or (mate_needs (with_ranks rows ranks) i) (mate_of points r.point) [] else []))
    (flat_same (λ vias. flat_map (via_needs (with_ranks rows ranks) dest i) vias) (λ vias. flat_map (via_needs rows dest i) vias)
    (λ vias. flat_same (via_needs (with_ranks rows ranks) dest i) (via_needs rows dest i) (ranked_via rows ranks dest i) vias) r.classes)
    ∙ ap (λ ns. flat_map (λ vias. flat_map (via_needs rows dest i) vias) r.classes ++ ns) (flag r.mate)
  where
    mate : (o : Option ℕ) → option_map_or (mate_needs (with_ranks rows ranks) i) o [] ≡ option_map_or (mate_needs rows i) o []
    mate None = refl
    mate (Some m) = ranked_mate rows ranks i m

    flag : (b : Bool) → (if b then option_map_or (mate_needs (with_ranks rows ranks) i) (mate_of points r.point) [] else []) ≡ (if b then option_map_or (mate_needs rows i) (mate_of points r.point) [] else [])
    flag true = mate (mate_of points r.point)
    flag false = refl

ranked_from : (points : List Point) (dest : ℕ) (rows : List Row) (ranks : List ℕ) (i : ℕ) (rs : List Row) (ks : List ℕ) → needs_from points dest (with_ranks rows ranks) i (with_ranks rs ks) ≡ needs_from points dest rows i rs
ranked_from points dest rows ranks i [] ks = refl
ranked_from points dest rows ranks i (r ∷ rs) [] = rw (ranked_row points dest rows ranks i r) (ap (λ ns. row_needs points dest rows i r ++ ns) (ap (needs_from points dest (with_ranks rows ranks) (i + 1)) (ranked_none rs) ∙ ranked_from points dest rows ranks (i + 1) rs []))
ranked_from points dest rows ranks i (r ∷ rs) (k ∷ ks) = rw (ranked_row points dest rows ranks i (ranked_by k r)) (ap (λ ns. row_needs points dest rows i r ++ ns) (ranked_from points dest rows ranks (i + 1) rs ks))

-- least ranks are the least of the rows that have them
pub least_given : (points : List Point) (dest : ℕ) (rows : List Row) (ranks : List ℕ) → IsLeast points dest rows ranks → IsLeast points dest (with_ranks rows ranks) (map (λ (r : Row). r.rank) (with_ranks rows ranks))
least_given points dest rows ranks h =
    let many = ranked_many rows ranks in
    let same : needs_of points dest (with_ranks rows ranks) ≡ needs_of points dest rows = ranked_from points dest rows ranks 0 rows ranks in
    subst (IsLeast points dest (with_ranks rows ranks)) (sym (ranks_given rows ranks h.ranked.each)) (record {
      ranked = record { each = h.ranked.each ∙ sym many; from_one = h.ranked.from_one; to_255 = h.ranked.to_255; met = subst (All (IsMet ranks)) (sym same) h.ranked.met };
      least = λ others ranked. h.least others (record { each = ranked.each ∙ many; from_one = ranked.from_one; to_255 = ranked.to_255; met = subst (All (IsMet others)) same ranked.met });
    })
