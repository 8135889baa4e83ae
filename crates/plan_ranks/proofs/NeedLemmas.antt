-- The needs of the rows of a plan are of rows that are there.
use Rattle.std.proofs.Common.{if◌then◌else◌, ◌≡◌, ℕ, ◌+◌, ◌<◌, ◌≤◌, Bool, true, false, eqb, Option, Some, None, List, [], ◌∷◌, length, get_or, replicate, refl, ap, sym, ◌∙◌, subst, arith, lit<, ⊎_elim}
use Rattle.std.specs.List.{All, flat_map}
use Rattle.std.specs.Option.{option_map_or}
use Rattle.std.proofs.lemmas.List.Elements.{All-nil, All-cons, All-append}
use Rattle.std.proofs.lemmas.List.Quantifiers.{position-Some}
use Rattle.net_items.specs.declared.items.Point.{Point}
use Rattle.net_items.specs.declared.lists.Row.{Row}
use Rattle.net_items.specs.Lookups.{mate_of}
use Rattle.plan_ranks.specs.declared.needs.Need.{Need}
use Rattle.std.proofs.lemmas.List.{length-replicate, get_or-replicate, get_or_past}
use Rattle.std.proofs.lemmas.Bool.{cases_lt}
use Rattle.std.proofs.lemmas.Grind.{get_or_default_zero}
use Rattle.plan_ranks.specs.Ranks.{IsMet, IsBelow, IsRanked, IsLeast, HasNoRanks, place_of, need, via_needs, mate_needs, row_needs, needs_from, needs_of}

-- a need between rows that are there
abbrev pub IsWithin : ℕ → Need → Type 0
IsWithin count n = n.upper < count × n.lower < count × n.by < 2

place_there : (rows : List Row) (z j : ℕ) → place_of rows z ≡ Some j → j < length rows
place_there rows z j e = (position-Some (λ (r : Row). eqb r.point z) rows j (record { point = 0; rank = 0; mate = false; classes = [] }) e).0

flat_all : {X : Type 0} (P : Need → Type 0) (f : X → List Need) → ((x : X) → All P (f x)) → (xs : List X) → All P (flat_map f xs)
flat_all P f h [] = All-nil P
flat_all P f h (x ∷ xs) = All-append P (f x) (flat_map f xs) (h x) (flat_all P f h xs)

via_within : (rows : List Row) (dest i z : ℕ) → i < length rows → All (IsWithin (length rows)) (via_needs rows dest i z)
via_within rows dest i z here = go (eqb z dest) refl
  where
    found : (o : Option ℕ) → place_of rows z ≡ o → All (IsWithin (length rows)) (option_map_or (λ j. need i j 1 ∷ []) o [])
    found None e = All-nil (IsWithin (length rows))
    found (Some j) e = All-cons (IsWithin (length rows)) (need i j 1) [] (here, place_there rows z j e, lit< tt) (All-nil (IsWithin (length rows)))

    go : (b : Bool) → eqb z dest ≡ b → All (IsWithin (length rows)) (via_needs rows dest i z)
    go true e = rw e (All-nil (IsWithin (length rows)))
    go false e = rw e (found (place_of rows z) refl)

mate_within : (rows : List Row) (i m : ℕ) → i < length rows → All (IsWithin (length rows)) (mate_needs rows i m)
mate_within rows i m here = found (place_of rows m) refl
  where
    found : (o : Option ℕ) → place_of rows m ≡ o → All (IsWithin (length rows)) (option_map_or (λ j. need i j 0 ∷ need j i 0 ∷ []) o [])
    found None e = All-nil (IsWithin (length rows))
    found (Some j) e =
        let there = place_there rows m j e in
        All-cons (IsWithin (length rows)) (need i j 0) (need j i 0 ∷ []) (here, there, lit< tt)
        (All-cons (IsWithin (length rows)) (need j i 0) [] (there, here, lit< tt) (All-nil (IsWithin (length rows))))

row_within : (points : List Point) (dest : ℕ) (rows : List Row) (i : ℕ) (r : Row) → i < length rows → All (IsWithin (length rows)) (row_needs points dest rows i r)
row_within points dest rows i r here =
    All-append (IsWithin (length rows)) (flat_map (λ vias. flat_map (via_needs rows dest i) vias) r.classes) _
    (flat_all (IsWithin (length rows)) (λ vias. flat_map (via_needs rows dest i) vias) (flat_all (IsWithin (length rows)) (via_needs rows dest i) (λ z. via_within rows dest i z here)) r.classes)
    (flag r.mate)
  where
    mate : (o : Option ℕ) → All (IsWithin (length rows)) (option_map_or (mate_needs rows i) o [])
    mate None = All-nil (IsWithin (length rows))
    mate (Some m) = mate_within rows i m here

    flag : (b : Bool) → All (IsWithin (length rows)) (if b then option_map_or (mate_needs rows i) (mate_of points r.point) [] else [])
    flag true = mate (mate_of points r.point)
    flag false = All-nil (IsWithin (length rows))

from_within : (points : List Point) (dest : ℕ) (rows : List Row) (i : ℕ) (rs : List Row) → i + length rs ≤ length rows → All (IsWithin (length rows)) (needs_from points dest rows i rs)
from_within points dest rows i [] fits = All-nil (IsWithin (length rows))
from_within points dest rows i (r ∷ rs) fits =
    All-append (IsWithin (length rows)) (row_needs points dest rows i r) (needs_from points dest rows (i + 1) rs)
    (row_within points dest rows i r (omega arith)) (from_within points dest rows (i + 1) rs (omega arith))

-- all needs are between rows that are there
pub needs_within : (points : List Point) (dest : ℕ) (rows : List Row) → All (IsWithin (length rows)) (needs_of points dest rows)
needs_within points dest rows = from_within points dest rows 0 rows (omega arith)

-- one rank of 1 for each row
abbrev pub ones_of : List Row → List ℕ
ones_of rows = replicate (length rows) 1

one_at : (rows : List Row) (k : ℕ) → k < length rows → get_or (ones_of rows) k 0 ≡ 1
one_at rows k h = get_or-replicate (length rows) k 1 0 h

pub many_ones : (rows : List Row) → length (ones_of rows) ≡ length rows
many_ones rows = length-replicate {A = ℕ} (length rows) 1

pub ones_below : (points : List Point) (dest : ℕ) (rows : List Row) (others : List ℕ) → IsRanked points dest rows others → IsBelow (ones_of rows) others
ones_below points dest rows others ranked = λ k. ⊎_elim
    (λ (h : k < length rows). let each = ranked.each in let one = one_at rows k h in let some = ranked.from_one k 0 (omega arith) in omega arith)
    (λ (h : length rows ≤ k). let size = many_ones rows in let past : get_or (ones_of rows) k 0 ≡ 0 = get_or_past (ones_of rows) k 0 (omega arith) in omega arith)
    (cases_lt k (length rows))

-- ranks that meet all needs and are below all others
pub least_made : (points : List Point) (dest : ℕ) (rows : List Row) (start ranks : List ℕ) (needs : List Need) → needs ≡ needs_of points dest rows → start ≡ ones_of rows → length ranks ≡ length start → ((k : ℕ) → get_or ranks k 0 < 256)
    → IsBelow start ranks → ((others : List ℕ) → All (IsMet others) needs → IsBelow start others → IsBelow ranks others) → All (IsMet ranks) needs → IsLeast points dest rows ranks
least_made points dest rows start ranks needs e ones long fits above below met =
    let many : length ranks ≡ length rows = long ∙ (ap length ones ∙ many_ones rows) in
    let over : IsBelow (ones_of rows) ranks = subst (λ xs. IsBelow xs ranks) ones above in
    record {
      ranked = record {
        each = many;
        from_one = λ k d h. let up = over k in let one = one_at rows k (omega arith) in rw (get_or_default_zero ranks k d h) (omega arith);
        to_255 = λ k d h. let fit = fits k in rw (get_or_default_zero ranks k d h) (omega arith);
        met = subst (All (IsMet ranks)) e met;
      };
      least = λ others ranked. below others (subst (All (IsMet others)) (sym e) ranked.met) (subst (λ xs. IsBelow xs others) (sym ones) (ones_below points dest rows others ranked));
    }

-- a rank that has to be above 255
pub none_made : (points : List Point) (dest : ℕ) (rows : List Row) (start : List ℕ) (at : ℕ) (needs : List Need) → needs ≡ needs_of points dest rows → start ≡ ones_of rows
    → ((others : List ℕ) → All (IsMet others) needs → IsBelow start others → 255 < get_or others at 0) → HasNoRanks points dest rows
none_made points dest rows start at needs e ones above = λ others ranked.
    let high = above others (subst (All (IsMet others)) (sym e) ranked.met) (subst (λ xs. IsBelow xs others) (sym ones) (ones_below points dest rows others ranked)) in
    ⊎_elim
    (λ (h : at < length others). let low = ranked.to_255 at 0 h in absurd (omega arith))
    (λ (h : length others ≤ at). let past : get_or others at 0 ≡ 0 = get_or_past others at 0 h in absurd (omega arith))
    (cases_lt at (length others))
