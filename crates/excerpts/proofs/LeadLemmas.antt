-- A row leads to the destination of its plan and to transfer points alone.
use Rattle.std.proofs.Common.{◌≡◌, ◌≢◌, ℕ, true, false, eqb, Option, Some, None, List, All, inl, inr, refl, sym, ◌∙◌, subst}
use Rattle.std.specs.List.{list_any}
use Rattle.std.proofs.lemmas.Bool.{ne_eqb}
use Rattle.std.proofs.lemmas.List.Elements.{All-weaker}
use Rattle.std.proofs.lemmas.List.Folds.{list_any_none}
use Rattle.net_items.specs.declared.lists.Row.{Row}
use Rattle.net_items.specs.Lookups.{is_stp, is_via, row_at}
use Rattle.profile.specs.Valid.{IsVia, IsValidRow}
use Rattle.profile.proofs.UnfoldingLemmas.{row_valid}
use Rattle.excerpts.specs.Excerpt.{ExcerptValue, IsRight, leads, source_of}

module _ (x : ExcerptValue) (right : IsRight x) (z : ℕ) (apart : z ≢ x.plan.dest) (ends : is_stp x.network.points z ≡ false) where
  via_other : (row : Row) (v : ℕ) → IsVia (source_of x) row v → eqb v z ≡ false
  via_other row v via = ne_eqb v z (λ same. elim via.leads [
    | inl d ↦ apart (sym same ∙ d)
    | inr low ↦ let transfers : is_stp x.network.points z ≡ true = subst (λ n. is_stp x.network.points n ≡ true) same low.transfers in cc
  ])

  class_other : (row : Row) (vias : List ℕ) → All (IsVia (source_of x) row) vias → list_any (λ v. eqb v z) vias ≡ false
  class_other row vias all = list_any_none (λ v. eqb v z) vias (All-weaker (IsVia (source_of x) row) (λ v. eqb v z ≡ false) (via_other row) vias all)

  row_other : (row : Row) → IsValidRow (source_of x) row → is_via row z ≡ false
  row_other row ok =
      list_any_none (λ vias. list_any (λ v. eqb v z) vias) row.classes
      (All-weaker (All (IsVia (source_of x) row)) (λ vias. list_any (λ v. eqb v z) vias ≡ false) (class_other row) row.classes ok.vias)

  pub leads_apart : (y : ℕ) → leads x.plan.rows y z ≡ false
  leads_apart y = go (row_at x.plan.rows y) refl
    where
      go : (o : Option Row) → row_at x.plan.rows y ≡ o → leads x.plan.rows y z ≡ false
      go None e = rw e refl
      go (Some row) e = rw e (row_other row (row_valid (source_of x) right.valid y row e).1)
