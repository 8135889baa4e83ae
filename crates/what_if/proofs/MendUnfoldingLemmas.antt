-- What a point needs to reach the destination is what the rule makes of what those of lower rank need.
use Rattle.std.proofs.Common.{◌≡◌, ℕ, zero, suc, ◌<◌, ◌≤◌, List, [], ◌∷◌, Option, Some, None, All, cond, eqb, take, Bool, true, false, refl, sym, ap, ◌∙◌, arith, subst}
use Rattle.std.proofs.lemmas.List.Elements.{All-head, All-tail, All-nil, All-append, All-take, All-weaker}
use Rattle.std.proofs.lemmas.Bool.{eq-eqb, ne_eqb}
use Rattle.net_items.specs.declared.lists.Row.{Row}
use Rattle.net_items.specs.Lookups.{concat_vias}
use Rattle.link_sets.proofs.ListLemmas.{map_same}
use Rattle.profile.specs.Status.{Source, source_row, source_rank, mate_row}
use Rattle.profile.specs.Valid.{IsVia, IsValidRow, IsValidSource}
use Rattle.profile.proofs.UnfoldingLemmas.{row_valid, rank_is, via_lower, mate_row_valid}
use Rattle.what_if.specs.declared.mending.SetLink.{SetLink}
use Rattle.what_if.specs.declared.wanted.Wanted.{Wanted}
use Rattle.what_if.specs.Mending.{is_strict, classes_wanted, vias_wanted, over, least_of, over_vias, mend_over_mate, row_mend, mend_by, mend_within, mend}

-- two tellings agree below a rank
pub record MendsAgree (src : Source) (n : ℕ) (f g : ℕ → Option (List SetLink)) : Type 0 where
  pub agree : (z : ℕ) → source_rank src z < n → f z ≡ g z

-- what holds of the vias of each class holds of all vias
pub All-vias : (P : ℕ → Type 0) (classes : List (List ℕ)) → All (All P) classes → All P (concat_vias classes)
All-vias P [] each = All-nil P
All-vias P (vias ∷ classes) each = All-append P vias (concat_vias classes) (All-head (All P) vias classes each) (All-vias P classes (All-tail (All P) vias classes each))

-- and what holds of those of all classes holds of those of the classes that lead to what is wanted
pub classes-wanted : (P : ℕ → Type 0) (src : Source) (wanted : Wanted) (row : Row) → All (All P) row.classes → All (All P) (classes_wanted src wanted row)
classes-wanted P src wanted row each = go (is_strict src wanted)
  where
    go : (b : Bool) → All (All P) (cond b (take 1 row.classes) row.classes)
    go true = All-take (All P) 1 row.classes each
    go false = each

pub vias-wanted : (P : ℕ → Type 0) (src : Source) (wanted : Wanted) (row : Row) → All (All P) row.classes → All P (vias_wanted src wanted row)
vias-wanted P src wanted row each = All-vias P (classes_wanted src wanted row) (classes-wanted P src wanted row each)

module _ (src : Source) (valid : IsValidSource src) (wanted : Wanted) where
  pub over_vias_same : (f g : ℕ → Option (List SetLink)) (row : Row) → IsValidRow src row → MendsAgree src row.rank f g → over_vias src wanted f row ≡ over_vias src wanted g row
  over_vias_same f g row ok same =
      ap least_of (map_same (λ z. over src row.point z (f z)) (λ z. over src row.point z (g z)) (vias_wanted src wanted row)
      (All-weaker (IsVia src row) (λ z. over src row.point z (f z) ≡ over src row.point z (g z))
      (λ z via. ap (over src row.point z) (same.agree z (via_lower src valid row z ok via))) (vias_wanted src wanted row) (vias-wanted (IsVia src row) src wanted row ok.vias)))

  pub over_mate_same : (f g : ℕ → Option (List SetLink)) (row : Row) → IsValidRow src row → MendsAgree src row.rank f g → mend_over_mate src wanted f row ≡ mend_over_mate src wanted g row
  over_mate_same f g row ok same = go (mate_row src row) refl
    where
      go : (o : Option Row) → mate_row src row ≡ o → mend_over_mate src wanted f row ≡ mend_over_mate src wanted g row
      go None e = rw e refl
      go (Some mate) e =
          let m = mate_row_valid src valid row mate ok e in
          let vias : over_vias src wanted f mate ≡ over_vias src wanted g mate = over_vias_same f g mate m.0 (subst (λ n. MendsAgree src n f g) (sym m.1) same) in
          rw e (ap (λ o. cond (is_strict src wanted) None (over src row.point mate.point o)) vias)

  -- what a row needs rests on what those of lower rank need
  pub row_mend_same : (f g : ℕ → Option (List SetLink)) (row : Row) → IsValidRow src row → MendsAgree src row.rank f g → row_mend src wanted f row ≡ row_mend src wanted g row
  row_mend_same f g row ok same =
      let vias = over_vias_same f g row ok same in
      let mates = over_mate_same f g row ok same in
      rw (vias, mates) refl

  pub mend_by_same : (f g : ℕ → Option (List SetLink)) (y : ℕ) → MendsAgree src (source_rank src y) f g → mend_by src wanted f y ≡ mend_by src wanted g y
  mend_by_same f g y same = go (source_row src y) refl
    where
      go : (o : Option Row) → source_row src y ≡ o → mend_by src wanted f y ≡ mend_by src wanted g y
      go None e = rw e refl
      go (Some row) e =
          let needs : row_mend src wanted f row ≡ row_mend src wanted g row = row_mend_same f g row (row_valid src valid y row e).1 (subst (λ n. MendsAgree src n f g) (rank_is src valid y row e) same) in
          rw e (ap (λ (o : Option (List SetLink)). cond (eqb y src.dest) (Some []) o) needs)

  -- at rank 0 there is the destination, or no row
  at_rank_zero : (f : ℕ → Option (List SetLink)) (y : ℕ) → source_rank src y ≡ 0 → mend_by src wanted f y ≡ mend_within src wanted zero y
  unfolding mend_within
  at_rank_zero f y h = go (source_row src y) refl
    where
      go : (o : Option Row) → source_row src y ≡ o → mend_by src wanted f y ≡ cond (eqb y src.dest) (Some []) None
      go None e = rw e refl
      go (Some row) e = let low = (row_valid src valid y row e).1.ranked in absurd (omega (arith, low, h, rank_is src valid y row e))

  -- more ranks change nothing
  within_same : (m n : ℕ) (y : ℕ) → source_rank src y ≤ m → source_rank src y ≤ n → mend_within src wanted m y ≡ mend_within src wanted n y
  unfolding mend_within
  within_same zero zero y hm hn = refl
  within_same zero (suc n) y hm hn = sym (at_rank_zero (mend_within src wanted n) y (omega arith))
  within_same (suc m) zero y hm hn = at_rank_zero (mend_within src wanted m) y (omega arith)
  within_same (suc m) (suc n) y hm hn =
      mend_by_same (mend_within src wanted m) (mend_within src wanted n) y
      (record { agree = λ z low. within_same m n z (omega arith) (omega arith) })

  -- THE UNFOLDING EQUATION
  pub mend_is : (y : ℕ) → mend src wanted y ≡ mend_by src wanted (mend src wanted) y
  unfolding mend mend_within
  mend_is y =
      within_same (source_rank src y) (suc (source_rank src y)) y (omega arith) (omega arith)
      ∙ mend_by_same (mend_within src wanted (source_rank src y)) (mend src wanted) y
      (record { agree = λ z low. within_same (source_rank src y) (source_rank src z) z (omega arith) (omega arith) })

  -- nothing is needed at the destination
  pub mend_of_dest : mend src wanted src.dest ≡ Some []
  mend_of_dest = mend_is src.dest ∙ rw (eq_dest) refl
    where
      eq_dest : eqb src.dest src.dest ≡ true
      eq_dest = eq-eqb src.dest src.dest refl

  -- what the point of a row needs
  pub mend_of_row : (y : ℕ) (row : Row) → source_row src y ≡ Some row → mend src wanted y ≡ row_mend src wanted (mend src wanted) row
  mend_of_row y row e =
      let r = row_valid src valid y row e in
      let other : eqb y src.dest ≡ false = ne_eqb y src.dest (λ same. r.1.apart (r.0 ∙ same)) in
      mend_is y ∙ rw (other, e) refl
