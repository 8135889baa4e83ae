-- The table by what is kept of choices, and what is wrong with it.
use Rattle.std.proofs.Common.{◌≡◌, ℕ, zero, suc, List, [], ◌∷◌, Some, Result, Ok, Err, map, refl, sym, ap, ◌∙◌, subst, inr, arith, length, get_or, slice_get}
use Rattle.std.specs.Prelude.{IsOk, OnOk, OnErr, IfErr}
use Rattle.std.proofs.lemmas.List.{length-map}
use Rattle.std.proofs.lemmas.Option.{same_Some, get_or_from_slice_get}
use Rattle.net_items.specs.declared.lists.Row.{Row}
use Rattle.route_choice.specs.declared.choices.Choice.{Choice}
use Rattle.profile.specs.declared.tables.RowState.{RowState}
use Rattle.profile.specs.Status.{Source, choice}
use Rattle.profile.specs.Whole.{heard_in, scratch, state_of, IsSettledTable}
use Rattle.profile.proofs.CertificateLemmas.{scratch_table}
use Rattle.excerpts.specs.Excerpt.{ExcerptValue, source_of, IsRight}
use Rattle.transfer_state.specs.Complaints.{chosen_states, chosen_table, heard_table, kept_table, HasAllPoints, HasPoints, IsFirstKept, IsFirstWrong, IsSettledKept}
use Rattle.transfer_state.specs.declared.complaints.Complaint.{Complaint}
use Rattle.transfer_state.specs.declared.hearing.Heard.{Heard}
use Rattle.transfer_state.specs.declared.hearing.Heard.TheVariants.{Written, Kept}
use Rattle.transfer_state.specs.Kept.{KeptValue, kept, opened, opened_rows}
use Rattle.transfer_state.specs.Routing.{IsChosen}
use Rattle.transfer_state.proofs.MatchLemmas.{complaint_unsettled}
use Rattle.transfer_state.proofs.RouteLemmas.{opened_chosen}

-- the state in a place is that of the choice there
states_at : (src : Source) (rows : List Row) (ks : List KeptValue) (i : ℕ) (row : Row) (k : KeptValue) → slice_get rows i ≡ Some row → slice_get ks i ≡ Some k
    → slice_get (chosen_states src rows (opened_rows src rows ks)) i ≡ Some (state_of src row (opened src row k))
states_at src [] ks i row k here there = cc
states_at src (r ∷ rows) [] i row k here there = cc
states_at src (r ∷ rows) (l ∷ ks) zero row k here there = ap (λ (q : Row). Some (state_of src q (opened src q l))) (same_Some r row here) ∙ ap (λ (m : KeptValue). Some (state_of src row (opened src row m))) (same_Some l k there)
states_at src (r ∷ rows) (l ∷ ks) (suc i) row k here there = states_at src rows ks i row k here there

points_in : (src : Source) (rows : List Row) (ks : List KeptValue) → length ks ≡ length rows → map (λ (state : RowState). state.point) (chosen_states src rows (opened_rows src rows ks)) ≡ map (λ (row : Row). row.point) rows
points_in src [] ks together = refl
points_in src (row ∷ rows) [] together = absurd (omega (arith, together))
points_in src (row ∷ rows) (k ∷ ks) together = ap (λ (ps : List ℕ). row.point ∷ ps) (points_in src rows ks (omega (arith, together)))

module _ (src : Source) (ks : List KeptValue) where
  pub kept_at : (i : ℕ) (row : Row) (k : KeptValue) → slice_get src.rows i ≡ Some row → slice_get ks i ≡ Some k → slice_get (kept_table src ks).rows i ≡ Some (state_of src row (opened src row k))
  kept_at i row k here there = states_at src src.rows ks i row k here there

  -- the table has the points of the plan
  pub kept_points : length ks ≡ length src.rows → HasPoints src (kept_table src ks)
  kept_points together = record { dest = refl; points = points_in src src.rows ks together }

  -- what is heard of the row in a place
  pub heard_of_kept : (y i : ℕ) (row : Row) (k : KeptValue) (d : RowState) → slice_get src.rows i ≡ Some row → slice_get ks i ≡ Some k
      → heard_in (state_of src row (opened src row k)).messages y ≡ heard_in (get_or (kept_table src ks).rows i d).messages y
  heard_of_kept y i row k d here there =
      ap (λ (s : RowState). heard_in s.messages y) (sym (get_or_from_slice_get (kept_table src ks).rows i (state_of src row (opened src row k)) d (kept_at i row k here there)))

-- the table that is heard has the points of the plan
pub heard_points : (src : Source) (heard : Heard) → HasAllPoints src heard → HasPoints src (heard_table src heard)
heard_points src (Written table) has = has
heard_points src (Kept choices) has = kept_points src choices.now has

states_chosen : (src : Source) (rows : List Row) → chosen_states src rows (map (choice src) rows) ≡ map (λ row. state_of src row (choice src row)) rows
states_chosen src [] = refl
states_chosen src (row ∷ rows) = ap (λ (ss : List RowState). state_of src row (choice src row) ∷ ss) (states_chosen src rows)

-- the choices from scratch make the table from scratch
pub table_settled : (src : Source) (choices : List Choice) → choices ≡ map (choice src) src.rows → chosen_table src choices ≡ scratch src
table_settled src choices is = ap (chosen_table src) is ∙ ap (λ (ss : List RowState). record { dest = src.dest; rows = ss }) (states_chosen src src.rows)

-- ---- what is said of what is kept

module _ (src : Source) (ks : List KeptValue) where
  pub settled_kept : {X : Type 0} (r : Result X Complaint) → length ks ≡ length src.rows → OnOk r (IsSettledTable src (kept_table src ks)) → OnOk r (IsSettledKept src ks)
  settled_kept (Ok u) together settled = record { together = together; settled = settled }
  settled_kept (Err e) together settled = tt

  pub first_kept : {X : Type 0} (r : Result X Complaint) → length ks ≡ length src.rows → IfErr r (IsFirstWrong src (kept_table src ks)) → IfErr r (IsFirstKept src ks)
  first_kept (Ok u) together first = tt
  first_kept (Err e) together first = inr (together, first)

  pub wrong_kept : {X : Type 0} (r : Result X Complaint) → IfErr r (IsFirstWrong src (kept_table src ks)) → OnErr r (IsSettledKept src ks → ⊥)
  wrong_kept (Ok u) first = tt
  wrong_kept (Err e) first = λ kept. complaint_unsettled src (kept_table src ks) e (inr first) kept.settled

  -- of the settled one there is no complaint
  pub no_complaint : {X : Type 0} (r : Result X Complaint) → IsSettledKept src ks → OnErr r (IsSettledKept src ks → ⊥) → IsOk r
  no_complaint (Ok u) settled wrong = refl
  no_complaint (Err e) settled wrong = absurd (wrong settled)

-- what is kept of the choices from scratch makes the table from scratch
pub chosen_scratch : (x : ExcerptValue) → IsRight x → (ks : List KeptValue) → IsChosen x ks → kept_table (source_of x) ks ≡ scratch (source_of x)
chosen_scratch x right ks is = table_settled (source_of x) (opened_rows (source_of x) x.plan.rows ks) (opened_chosen x right ks is)

-- and that is settled
pub chosen_settled : (x : ExcerptValue) → IsRight x → (ks : List KeptValue) → IsChosen x ks → IsSettledKept (source_of x) ks
chosen_settled x right ks is = record {
  together = ap (length {A = KeptValue}) is ∙ length-map x.plan.rows (λ (row : Row). kept (choice (source_of x) row));
  settled = subst (IsSettledTable (source_of x)) (sym (chosen_scratch x right ks is)) (scratch_table (source_of x) right.valid);
}
