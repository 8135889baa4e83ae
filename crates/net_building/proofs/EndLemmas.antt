-- Lists in rising keys, cut in two: what a key finds between its front and its rest.
use Rattle.std.proofs.Common.{map, ◌≡◌, ℕ, ◌<◌, Some, None, List, [], ◌∷◌, ◌++◌, refl, ap, ◌∙◌, subst, arith, append_assoc}
use Rattle.std.specs.List.{AllByRecursion}
use Rattle.std.proofs.lemmas.Bool.{eq-eqb, ne_eqb}
use Rattle.std.proofs.lemmas.Bool.Decides.{nat_tests}
use Rattle.net_items.specs.Keyed.{IsRising, at_key, put, edit}

-- what holds of a list holds of an element in its middle
pub All-after : {X : Type 0} (P : X → Type 0) (front : List X) (x : X) (rest : List X) → AllByRecursion P (front ++ x ∷ rest) → P x
All-after P [] x rest all = all.0
All-after P (y ∷ ys) x rest all = All-after P ys x rest all.1

-- an element takes the place of another
pub All-swap : {X : Type 0} (P : X → Type 0) (front : List X) (x y : X) (rest : List X) → (P x → P y) → AllByRecursion P (front ++ x ∷ rest) → AllByRecursion P (front ++ y ∷ rest)
All-swap P [] x y rest f all = (f all.0, all.1)
All-swap P (z ∷ zs) x y rest f all = (all.0, All-swap P zs x y rest f all.1)

module _ {X : Type 0} (key : X → ℕ) where
  -- an element of the same key takes the place of another
  pub IsRising-swap : (front : List X) (x y : X) (rest : List X) → key x ≡ key y → IsRising key (front ++ x ∷ rest) → IsRising key (front ++ y ∷ rest)
  IsRising-swap [] x y rest same up = (subst (λ n. AllByRecursion (λ z. n < key z) rest) same up.0, up.1)
  IsRising-swap (z ∷ zs) x y rest same up = (All-swap (λ w. key z < key w) zs x y rest (λ h. omega arith) up.0, IsRising-swap zs x y rest same up.1)

  -- what stands before an element in a rising list has a lower key
  pub below_next : (front : List X) (x : X) (rest : List X) → IsRising key (front ++ x ∷ rest) → AllByRecursion (λ y. key y < key x) front
  below_next [] x rest up = tt
  below_next (y ∷ ys) x rest up = (All-after (λ z. key y < key z) ys x rest up.0, below_next ys x rest up.1)

  -- an element of a greater key goes to the end
  pub put_end : (x : X) (front : List X) → AllByRecursion (λ y. key y < key x) front → put key x front ≡ front ++ x ∷ []
  put_end x [] below = refl
  put_end x (y ∷ ys) below = grind (arith, nat_tests, below.0, put_end x ys below.1)

  -- an element of a lower key goes to the front
  pub put_front : (x : X) (rest : List X) → AllByRecursion (λ y. key x < key y) rest → put key x rest ≡ x ∷ rest
  put_front x [] above = refl
  put_front x (y ∷ ys) above = grind (arith, nat_tests, above.0)

  -- lower keys don't have a greater one
  pub none_below : (k : ℕ) (front : List X) → AllByRecursion (λ y. key y < k) front → at_key key k front ≡ None
  none_below k [] below = refl
  none_below k (y ∷ ys) below =
      let low : key y < k = below.0 in
      rw (ne_eqb (key y) k (λ e. omega arith)) (none_below k ys below.1)

  -- an element after lower keys is found
  pub found_after : (front : List X) (x : X) (rest : List X) → AllByRecursion (λ y. key y < key x) front → at_key key (key x) (front ++ x ∷ rest) ≡ Some x
  found_after [] x rest below = rw (eq-eqb (key x) (key x) refl) refl
  found_after (y ∷ ys) x rest below =
      let low : key y < key x = below.0 in
      rw (ne_eqb (key y) (key x) (λ e. omega arith)) (found_after ys x rest below.1)

  -- an element after lower keys is the one that an edit changes
  pub edit_after : (f : X → X) (front : List X) (x : X) (rest : List X) → AllByRecursion (λ y. key y < key x) front → edit key (key x) f (front ++ x ∷ rest) ≡ front ++ f x ∷ rest
  edit_after f [] x rest below = rw (eq-eqb (key x) (key x) refl) refl
  edit_after f (y ∷ ys) x rest below =
      let low : key y < key x = below.0 in
      rw (ne_eqb (key y) (key x) (λ e. omega arith)) (ap (λ zs. y ∷ zs) (edit_after f ys x rest below.1))

  -- each element of a rising list is found by its key
  pub found_all : (front rest xs : List X) → front ++ rest ≡ xs → IsRising key (front ++ rest) → AllByRecursion (λ x. at_key key (key x) xs ≡ Some x) rest
  found_all front [] xs e up = tt
  found_all front (x ∷ rest) xs e up =
      let again : (front ++ x ∷ []) ++ rest ≡ front ++ x ∷ rest = append_assoc front (x ∷ []) rest in
      (subst (λ ys. at_key key (key x) ys ≡ Some x) e (found_after front x rest (below_next front x rest up)), found_all (front ++ x ∷ []) rest xs (again ∙ e) (rw again up))

-- what holds of each value holds of all values
pub All-mapped : {X Y : Type 0} (g : X → Y) (P : Y → Type 0) (Q : X → Type 0) → ((x : X) → Q x → P (g x)) → (xs : List X) → AllByRecursion Q xs → AllByRecursion P (map g xs)
All-mapped g P Q f [] all = tt
All-mapped g P Q f (x ∷ xs) all = (f x all.0, All-mapped g P Q f xs all.1)

-- values of the same keys rise too
pub IsRising-mapped : {X Y : Type 0} (g : X → Y) (key : X → ℕ) (other : Y → ℕ) → ((x : X) → other (g x) ≡ key x) → (xs : List X) → IsRising key xs → IsRising other (map g xs)
IsRising-mapped g key other same [] up = tt
IsRising-mapped g key other same (x ∷ xs) up =
    (All-mapped g (λ y. other (g x) < other y) (λ y. key x < key y) (λ y h. let e = same x in let d = same y in omega arith) xs up.0, IsRising-mapped g key other same xs up.1)

-- a map of elements that stay
pub map-same : {X : Type 0} (g : X → X) → ((x : X) → g x ≡ x) → (xs : List X) → map g xs ≡ xs
map-same g same [] = refl
map-same g same (x ∷ xs) = rw (same x, map-same g same xs) refl
