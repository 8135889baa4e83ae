-- What the parallel calls gave, in order.
use Rattle.std.proofs.Common.{◌≡◌, ℕ, zero, suc, ◌<◌, List, [], ◌∷◌, Option, Some, None, map, refl, sym, subst, length, get_or, slice_get, take, arith}
use Rattle.std.specs.Prelude.{All, Result, Ok, Err, IfOk, MatchResult, Contains}
use Rattle.std.specs.List.{AllZip}
use Rattle.std.proofs.lemmas.Option.{same_Some}
use Rattle.std.proofs.lemmas.List.{length-take, get_or-take}
use Rattle.net_data.specs.Network.{Network}
use Rattle.profile.specs.declared.tables.Table.{Table}
use Rattle.transfer_state.specs.declared.complaints.Complaint.{Complaint}
use Rattle.all_tables.specs.Tables.{IsSettledIn, IsJudged}

-- if each call succeeded, what is said of its answer is said of the answers in order
pub each_ok : {A B : Type 0} (E : Type 0) (P : A → B → Type 0) (xs : List A) (ys : List B) → AllZip (λ x (r : Result B E). IfOk r (P x)) xs (map Ok ys) → AllZip P xs ys
each_ok E P [] [] h = h
each_ok E P [] (y ∷ ys) h = absurd h
each_ok E P (x ∷ xs) [] h = absurd h
each_ok E P (x ∷ xs) (y ∷ ys) h = (h.0, each_ok E P xs ys h.1)

pub collected : {V A B : Type 0} (E : Type 0) (P : A → B → Type 0) (items : V → List B) (r : Result V E) (xs : List A) (rs : List (Result B E)) → AllZip (λ x (r : Result B E). IfOk r (P x)) xs rs
    → MatchResult r (λ v. (ys : List B) × (rs ≡ map Ok ys) × (items v ≡ ys)) (λ e. Contains rs (Err e)) → IfOk r (λ v. AllZip P xs (items v))
collected E P items (Ok v) xs rs each h =
    subst (AllZip P xs) (sym h.2) (each_ok E P xs h.0 (subst (AllZip (λ x r. IfOk r (P x)) xs) h.1 each))
collected E P items (Err e) xs rs each h = tt

-- answers that are a function of what they are about
pub each_is : {A B : Type 0} (f : A → B) (xs : List A) (ys : List B) → AllZip (λ x y. y ≡ f x) xs ys → ys ≡ map f xs
each_is f [] [] h = refl
each_is f [] (y ∷ ys) h = absurd h
each_is f (x ∷ xs) [] h = absurd h
each_is f (x ∷ xs) (y ∷ ys) h = λ i. h.0 i ∷ each_is f xs ys h.1 i

pub same_length : {A B : Type 0} (P : A → B → Type 0) (xs : List A) (ys : List B) → AllZip P xs ys → length ys ≡ length xs
same_length P [] [] h = refl
same_length P [] (y ∷ ys) h = absurd h
same_length P (x ∷ xs) [] h = absurd h
same_length P (x ∷ xs) (y ∷ ys) h = let more = same_length P xs ys h.1 in omega arith

-- what stands at a place
pub at_place : {A B : Type 0} (P : A → B → Type 0) (xs : List A) (ys : List B) (k : ℕ) (d : A) (y : B) → AllZip P xs ys → slice_get ys k ≡ Some y → P (get_or xs k d) y
at_place P [] [] k d y h at = absurd (cc)
at_place P [] (z ∷ zs) k d y h at = absurd h
at_place P (x ∷ xs) [] k d y h at = absurd h
at_place P (x ∷ xs) (z ∷ zs) zero d y h at = subst (P x) (same_Some z y at) h.0
at_place P (x ∷ xs) (z ∷ zs) (suc k) d y h at = at_place P xs zs k d y h.1 at

-- if nothing is said of the first tables, they are the settled ones
pub settled_before : (net : Network) (tables : List Table) (found : List (Option Complaint)) (n : ℕ) → AllZip (IsJudged net) tables found
    → ((k : ℕ) → k < n → slice_get found k ≡ Some None) → All (IsSettledIn net) (take n tables)
settled_before net tables found n each none = λ k d low.
    subst (IsSettledIn net) (sym (get_or-take n tables k d (omega (arith, length-take n tables, low))))
    (at_place (IsJudged net) tables found k d None each (none k (omega (arith, length-take n tables, low))))
