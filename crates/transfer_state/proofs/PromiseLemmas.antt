-- What the table from scratch promises.
use Rattle.std.proofs.Common.{◌≡◌, ℕ, Bool, eqb, Option, Some, None, option_map, refl, sym, ap, ◌∙◌}
use Rattle.std.proofs.lemmas.Option.{same_Some}
use Rattle.net_items.specs.declared.lists.Row.{Row}
use Rattle.profile.specs.declared.tables.RowState.{RowState}
use Rattle.profile.specs.Status.{Source, source_row, choice, status}
use Rattle.profile.specs.Valid.{IsValidSource}
use Rattle.profile.specs.Whole.{scratch, state_of}
use Rattle.profile.proofs.CertificateLemmas.{find-map}
use Rattle.profile.proofs.SettledLemmas.{mates_apart_by, planned_there}
use Rattle.profile.proofs.UnfoldingLemmas.{row_valid, status_is}
use Rattle.profile.proofs.WalkLemmas.{reached_walk, walk_reached}
use Rattle.transfer_state.specs.Promises.{state_in, status_in, TellsWalks, KeepsMatesApart}

module _ (src : Source) (valid : IsValidSource src) where
  -- the state of a point is that of its row
  state_is : (y : ℕ) → state_in (scratch src) y ≡ option_map (λ (row : Row). state_of src row (choice src row)) (source_row src y)
  state_is y = find-map (λ (s : RowState). eqb s.point y) (λ (r : Row). eqb r.point y) (λ (row : Row). state_of src row (choice src row)) (λ r. refl) src.rows

  -- the status in the table is the status
  status_is_in : (y : ℕ) → status_in (scratch src) y ≡ status src y
  status_is_in y = at (eqb y src.dest) refl (source_row src y) refl
    where
      at : (b : Bool) → eqb y src.dest ≡ b → (o : Option Row) → source_row src y ≡ o → status_in (scratch src) y ≡ status src y
      at b e None none = rw (state_is y, none) (sym (status_is src valid y ∙ rw none refl))
      at b e (Some row) some = rw (state_is y, some) (sym (status_is src valid y ∙ rw some refl))

  pub tells_walks : TellsWalks src (scratch src)
  tells_walks y = (
    λ free. reached_walk src valid y (λ shut. free (status_is_in y ∙ shut)),
    λ walk shut. walk_reached src valid y walk (sym (status_is_in y) ∙ shut),
  )

  -- a state in the table is that of a row
  made_of : (y : ℕ) (s : RowState) → state_in (scratch src) y ≡ Some s → (row : Row) × (source_row src y ≡ Some row) × (state_of src row (choice src row) ≡ s)
  made_of y s there = at (source_row src y) refl (sym (state_is y) ∙ there)
    where
      at : (o : Option Row) → source_row src y ≡ o → option_map (λ (row : Row). state_of src row (choice src row)) o ≡ Some s → (row : Row) × (source_row src y ≡ Some row) × (state_of src row (choice src row) ≡ s)
      at None none is = absurd (cc)
      at (Some row) some is = (row, some, same_Some (state_of src row (choice src row)) s is)

  pub keeps_apart : KeepsMatesApart src (scratch src)
  keeps_apart y z one other there back paired first second =
      let mine = made_of y one there in
      let its = made_of z other back in
      let point : mine.0.point ≡ y = (row_valid src valid y mine.0 mine.1).0 in
      let its_point : its.0.point ≡ z = (row_valid src valid z its.0 its.1).0 in
      mates_apart_by src valid mine.0 its.0 (planned_there src valid y mine.0 mine.1) (planned_there src valid z its.0 its.1)
      (ap src.mate_of point ∙ paired ∙ ap Some (sym its_point))
      (ap (λ (s : RowState). s.choice.class) mine.2 ∙ first) (ap (λ (s : RowState). s.choice.class) its.2 ∙ second)
