-- Choices that have the same statuses, place by place.
use Rattle.std.proofs.Common.{◌≡◌, ℕ, zero, suc, ◌+◌, ◌<◌, ◌≤◌, Some, List, [], ◌∷◌, length, get_or, drop, slice_get, refl, ap, sym, ◌∙◌}
use Rattle.std.proofs.lemmas.List.{drop_all, drop_more}
use Rattle.std.proofs.lemmas.Option.{same_Some}
use Rattle.route_choice.specs.declared.choices.Far.{Far}
use Rattle.transfer_state.specs.Kept.{KeptValue, kept_statuses}

-- one place more from which on the statuses are the same
pub same_from : (choices others : List KeptValue) (position : ℕ) (c d : KeptValue) → position < length choices → c ≡ get_or choices position c → position < length others → d ≡ get_or others position d
    → c.status ≡ d.status → kept_statuses (drop (position + 1) choices) ≡ kept_statuses (drop (position + 1) others) → kept_statuses (drop position choices) ≡ kept_statuses (drop position others)
same_from choices others position c d within is there other same rest =
    let here : (get_or choices position c).status ≡ (get_or others position d).status = ap (λ (x : KeptValue). x.status) (sym is) ∙ (same ∙ ap (λ (x : KeptValue). x.status) other) in
    rw (drop_more choices position c within, drop_more others position d there) (rw (here, rest) refl)

-- past the end nothing is left to compare
pub same_end : (choices others : List KeptValue) (position : ℕ) → length choices ≤ position → length others ≤ position → kept_statuses (drop position choices) ≡ kept_statuses (drop position others)
same_end choices others position within other = rw (drop_all position choices within, drop_all position others other) refl

first_same : (f g : Far) (fs gs : List Far) → f ∷ fs ≡ g ∷ gs → f ≡ g
first_same f g fs gs e = cc

rest_same : (f g : Far) (fs gs : List Far) → f ∷ fs ≡ g ∷ gs → fs ≡ gs
rest_same f g fs gs e = cc

-- as many choices have the same statuses
pub same_length : (choices others : List KeptValue) → kept_statuses choices ≡ kept_statuses others → length choices ≡ length others
same_length [] [] e = refl
same_length [] (d ∷ ds) e = cc
same_length (c ∷ cs) [] e = cc
same_length (c ∷ cs) (d ∷ ds) e = ap suc (same_length cs ds (rest_same c.status d.status (kept_statuses cs) (kept_statuses ds) e))

-- and each in its place
pub same_at : (choices others : List KeptValue) (k : ℕ) (c d : KeptValue) → slice_get choices k ≡ Some c → slice_get others k ≡ Some d → kept_statuses choices ≡ kept_statuses others → c.status ≡ d.status
same_at [] others k c d here there e = cc
same_at (x ∷ xs) [] k c d here there e = cc
same_at (x ∷ xs) (y ∷ ys) zero c d here there e =
    ap (λ (z : KeptValue). z.status) (sym (same_Some x c here)) ∙ (first_same x.status y.status (kept_statuses xs) (kept_statuses ys) e ∙ ap (λ (z : KeptValue). z.status) (same_Some y d there))
same_at (x ∷ xs) (y ∷ ys) (suc k) c d here there e = same_at xs ys k c d here there (rest_same x.status y.status (kept_statuses xs) (kept_statuses ys) e)
