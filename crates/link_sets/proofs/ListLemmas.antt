-- Lists: a map that agrees, what a look-up finds, and tests of elements.
use Rattle.std.proofs.Common.{◌≡◌, List, [], ◌∷◌, Option, Some, None, All, map, cond, Bool, true, false, refl, inl, inr, ◌⊎◌, subst}
use Rattle.std.specs.Prelude.{find, ◌&&◌}
use Rattle.std.specs.List.{list_any}
use Rattle.std.proofs.lemmas.Bool.{or_cases, or_left, or_right}
use Rattle.std.proofs.lemmas.List.Elements.{All-head, All-tail}

-- functions that agree at each element make the same list
pub map_same : {X Y : Type 0} (f g : X → Y) (xs : List X) → All (λ x. f x ≡ g x) xs → map f xs ≡ map g xs
map_same f g [] h = refl
map_same f g (x ∷ xs) h =
    let head : f x ≡ g x = All-head (λ y. f y ≡ g y) x xs h in
    let tail : map f xs ≡ map g xs = map_same f g xs (All-tail (λ y. f y ≡ g y) x xs h) in
    cc

-- the first element, or what is found in the rest
pub found_cases : {X : Type 0} (b : Bool) (y x : X) (o : Option X) → cond b (Some y) o ≡ Some x → ((b ≡ true) × (y ≡ x)) ⊎ (o ≡ Some x)
found_cases true y x o e = inl (refl, cc)
found_cases false y x o e = inr e

-- what is found passes, and has what all have
pub find_gives : {X : Type 0} (p : X → Bool) (P : X → Type 0) (xs : List X) (x : X) → All P xs → find p xs ≡ Some x → (p x ≡ true) × P x
find_gives p P [] x h e = cc
find_gives p P (y ∷ ys) x h e =
    elim (found_cases (p y) y x (find p ys) e) [
      | inl w ↦ (subst (λ z. p z ≡ true) w.1 w.0, subst P w.1 (All-head P y ys h))
      | inr w ↦ find_gives p P ys x (All-tail P y ys h) w
    ]

-- a test that passes less, but what was found, finds the same
pub find_weaker : {X : Type 0} (p q : X → Bool) (xs : List X) → ((x : X) → q x ≡ true → p x ≡ true) → (x : X) → find p xs ≡ Some x → q x ≡ true → find q xs ≡ Some x
find_weaker p q [] weaker x e keeps = cc
find_weaker p q (y ∷ ys) weaker x e keeps = go (p y) refl (q y) refl (find_weaker p q ys weaker x)
  where
    go : (a : Bool) → p y ≡ a → (b : Bool) → q y ≡ b → (find p ys ≡ Some x → q x ≡ true → find q ys ≡ Some x) → cond (q y) (Some y) (find q ys) ≡ Some x
    go true pe true qe rec = let here : Some y ≡ Some x = rw pe at e in rw qe here
    go true pe false qe rec = let here : Some y ≡ Some x = rw pe at e in cc
    go false pe true qe rec = let t : p y ≡ true = weaker y qe in cc
    go false pe false qe rec = let rest : find p ys ≡ Some x = rw pe at e in rw qe (rec rest keeps)

-- a test that passes less finds nothing where the other finds nothing
pub find_weaker_none : {X : Type 0} (p q : X → Bool) (xs : List X) → ((x : X) → q x ≡ true → p x ≡ true) → find p xs ≡ None → find q xs ≡ None
find_weaker_none p q [] weaker e = refl
find_weaker_none p q (y ∷ ys) weaker e = go (p y) refl (q y) refl (find_weaker_none p q ys weaker)
  where
    go : (a : Bool) → p y ≡ a → (b : Bool) → q y ≡ b → (find p ys ≡ None → find q ys ≡ None) → cond (q y) (Some y) (find q ys) ≡ None
    go true pe b qe rec = let here : Some y ≡ None = rw pe at e in cc
    go false pe true qe rec = let t : p y ≡ true = weaker y qe in cc
    go false pe false qe rec = let rest : find p ys ≡ None = rw pe at e in rw qe (rec rest)

-- what passes less passes as much in any list
pub any_weaker : {X : Type 0} (p q : X → Bool) (xs : List X) → ((x : X) → p x ≡ true → q x ≡ true) → list_any p xs ≡ true → list_any q xs ≡ true
any_weaker p q [] weaker e = e
any_weaker p q (x ∷ xs) weaker e =
    elim (or_cases (p x) (list_any p xs) e) [
      | inl t ↦ or_left (q x) (list_any q xs) (weaker x t)
      | inr t ↦ or_right (q x) (list_any q xs) (any_weaker p q xs weaker t)
    ]

-- both tests are true
pub and_first : (a b : Bool) → (a && b) ≡ true → a ≡ true
and_first true b e = refl
and_first false b e = e

pub and_both : (a b : Bool) → a ≡ true → b ≡ true → (a && b) ≡ true
and_both a b t u = rw (t, u) refl

pub and_second : (a b : Bool) → (a && b) ≡ true → b ≡ true
and_second true b e = e
and_second false b e = cc
