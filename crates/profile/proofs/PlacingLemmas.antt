-- The rows of a plan in their places.
use Rattle.std.proofs.Common.{◌≡◌, ℕ, zero, suc, ◌<◌, List, [], ◌∷◌, Some, Bool, true, false, eqb, get_or, refl, sym, ap, arith, subst, slice_get}
use Rattle.std.specs.Prelude.{find}
use Rattle.std.proofs.lemmas.Bool.{eq-eqb, ne_eqb}
use Rattle.std.proofs.lemmas.Option.{same_Some, slice_get_within, get_or_from_slice_get}
use Rattle.net_items.specs.declared.lists.Row.{Row}
use Rattle.profile.specs.Status.{Source, source_row}
use Rattle.profile.specs.Valid.{IsValidSource}

-- what is found if all before it fail
pub find_at_place : {X : Type 0} (p : X → Bool) (xs : List X) (i : ℕ) (x : X) → ((k : ℕ) (y : X) → k < i → slice_get xs k ≡ Some y → p y ≡ false) → slice_get xs i ≡ Some x → p x ≡ true → find p xs ≡ Some x
find_at_place p [] i x before at passes = cc
find_at_place p (y ∷ ys) zero x before at passes =
    let same : y ≡ x = same_Some y x at in
    let here : p y ≡ true = subst (λ z. p z ≡ true) (sym same) passes in rw here at
find_at_place p (y ∷ ys) (suc i) x before at passes =
    let other : p y ≡ false = before 0 y (omega arith) refl in
    rw other (find_at_place p ys i x (λ k z low e. before (suc k) z (omega arith) e) at passes)

module _ (src : Source) (valid : IsValidSource src) where
  -- the row in a place is the row of its point
  pub row_at_place : (i : ℕ) (row : Row) → slice_get src.rows i ≡ Some row → source_row src row.point ≡ Some row
  row_at_place i row at =
      find_at_place (λ r. eqb r.point row.point) src.rows i row
      (λ k r low there.
      let apart : (get_or src.rows k row).point < (get_or src.rows i row).point = valid.once k i row low (slice_get_within src.rows i row at) in
      let mine : (get_or src.rows i row).point ≡ row.point = ap (λ (q : Row). q.point) (get_or_from_slice_get src.rows i row row at) in
      let its : (get_or src.rows k row).point ≡ r.point = ap (λ (q : Row). q.point) (get_or_from_slice_get src.rows k r row there) in
      ne_eqb r.point row.point (λ e. omega (arith, apart, mine, its, e)))
      at (eq-eqb row.point row.point refl)
