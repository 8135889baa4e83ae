-- The routing of an excerpt and its table.
use Rattle.std.proofs.Common.{◌≡◌, ℕ, List, [], ◌∷◌, Option, Some, None, All, map, eqb, refl, sym, ap, ◌∙◌, length}
use Rattle.std.proofs.lemmas.List.Elements.{All-head, All-tail}
use Rattle.std.specs.Prelude.{slice_get}
use Rattle.std.specs.Option.{option_map, option_and_then}
use Rattle.std.proofs.lemmas.Option.{same_Some}
use Rattle.net_items.specs.declared.lists.Row.{Row}
use Rattle.net_items.specs.Lookups.{row_at}
use Rattle.route_choice.specs.declared.choices.Choice.{Choice}
use Rattle.profile.specs.declared.tables.RowState.{RowState}
use Rattle.profile.specs.declared.tables.Table.{Table}
use Rattle.profile.specs.Status.{Source, choice, status}
use Rattle.profile.specs.Valid.{IsSmall}
use Rattle.profile.specs.declared.hops.Hop.{Hop}
use Rattle.profile.specs.Traces.{hop_of}
use Rattle.profile.specs.Whole.{state_of, carrier, link_of}
use Rattle.profile.proofs.CertificateLemmas.{find-map}
use Rattle.excerpts.specs.Excerpt.{Content, ExcerptValue, source_of, content_of, IsRight}
use Rattle.excerpts.proofs.ExcerptLemmas.{table_equal}
use Rattle.excerpts.proofs.SourceLemmas.{row_point_is}
use Rattle.transfer_state.specs.Kept.{KeptValue, kept, opened, opened_rows, kept_statuses}
use Rattle.transfer_state.specs.Routing.{state_at, hop_by, settled_choices, statuses_of, IsChosen, IsFoundRow}
use Rattle.transfer_state.specs.Told.{AreChoices}
use Rattle.transfer_state.proofs.KeptLemmas.{opened_back}
use Rattle.transfer_state.proofs.MatchLemmas.{map_by_places, map_at}
use Rattle.transfer_state.proofs.SweepLemmas.{found_small, rows_small}

-- the state of a point is that of its row
pub state_is : (x : ExcerptValue) (y : ℕ) → state_at x y ≡ option_map (λ row. state_of (source_of x) row (choice (source_of x) row)) (row_at x.plan.rows y)
state_is x y =
    find-map (λ (s : RowState). eqb s.point y) (λ (r : Row). eqb r.point y) (λ row. state_of (source_of x) row (choice (source_of x) row)) (λ r. refl) x.plan.rows

pub state_there : (x : ExcerptValue) (y : ℕ) (row : Row) → row_at x.plan.rows y ≡ Some row → state_at x y ≡ Some (state_of (source_of x) row (choice (source_of x) row))
state_there x y row at = state_is x y ∙ ap (option_map (λ row. state_of (source_of x) row (choice (source_of x) row))) at

pub state_none : (x : ExcerptValue) (y : ℕ) → row_at x.plan.rows y ≡ None → state_at x y ≡ None
state_none x y at = state_is x y ∙ ap (option_map (λ row. state_of (source_of x) row (choice (source_of x) row))) at

-- a row that is found is small
pub row_small : (x : ExcerptValue) → IsRight x → (y : ℕ) (row : Row) → row_at x.plan.rows y ≡ Some row → IsSmall row
row_small x right y row at = found_small x.plan.rows _ row (rows_small (source_of x) right.valid) at

-- what is kept in the rows' places is that of their choices
pub chosen : (x : ExcerptValue) (choices : List KeptValue) → AreChoices (source_of x) choices → length choices ≡ length x.plan.rows → IsChosen x choices
chosen x choices each together = map_by_places (λ row. kept (choice (source_of x) row)) choices x.plan.rows together (λ k row c at there. same_Some c (kept (choice (source_of x) row)) (sym there ∙ each k row at))

choices_in : (src : Source) (rows : List Row) → map (λ (s : RowState). kept s.choice) (map (λ row. state_of src row (choice src row)) rows) ≡ map (λ row. kept (choice src row)) rows
choices_in src [] = refl
choices_in src (row ∷ rows) = ap (λ cs. kept (choice src row) ∷ cs) (choices_in src rows)

-- what reads the same has the same choices
pub chosen_same : (x y : ExcerptValue) → IsRight x → IsRight y → content_of y ≡ content_of x → (choices : List KeptValue) → IsChosen x choices → IsChosen y choices
chosen_same x y one other same choices is =
    is ∙ sym (choices_in (source_of x) x.plan.rows)
    ∙ ap (λ (t : Table). map (λ (s : RowState). kept s.choice) t.rows) (table_equal x y one other (sym same))
    ∙ choices_in (source_of y) y.plan.rows

pub settled_same : (x y : ExcerptValue) → IsRight x → IsRight y → content_of y ≡ content_of x → settled_choices x ≡ settled_choices y
settled_same x y one other same =
    let dest : x.plan.dest ≡ y.plan.dest = ap (λ (c : Content). c.plan.dest) (sym same) in
    ap (λ n. record { dest = n; kept = (settled_choices x).kept }) dest
    ∙ ap (λ (ks : List KeptValue). record { dest = y.plan.dest; kept = ks }) (chosen_same x y one other same (settled_choices x).kept refl)

-- the row of a point is found with what is kept of its choice in its place
pub found_row : (x : ExcerptValue) → IsRight x → (choices : List KeptValue) → IsChosen x choices → (y i : ℕ) (row : Row) (k : KeptValue) (c : Choice) → row_at x.plan.rows y ≡ Some row → slice_get x.plan.rows i ≡ Some row → slice_get choices i ≡ Some k → c ≡ opened (source_of x) row k → IsFoundRow x y row c
found_row x right choices chosen y i row k c at here there opens =
    let its : k ≡ kept (choice (source_of x) row) = map_at (λ r. kept (choice (source_of x) r)) choices x.plan.rows i row k chosen here there in
    let is : c ≡ choice (source_of x) row = opens ∙ ap (opened (source_of x) row) its ∙ opened_back (source_of x) row (status (source_of x)) (row_small x right y row at) in
    record { there = at; chosen = is; state = state_there x y row at ∙ ap (λ f. Some (state_of (source_of x) row f)) (sym is); small = row_small x right y row at }

-- the hop of a row that is found is that of the point
pub hop_is : (x : ExcerptValue) (y s : ℕ) (row : Row) (c : Choice) → IsFoundRow x y row c → hop_by (source_of x) row c s ≡ hop_of (source_of x) y s
hop_is x y s row c found =
    let src : Source = source_of x in
    let body : ℕ → Choice → Option Hop = λ from f. option_and_then (λ z. option_map (λ link. record { from = from; link = link; to = z }) (link_of src row f s)) (carrier row f s) in
    ap (body row.point) found.chosen
    ∙ ap (λ from. body from (choice src row)) (row_point_is x.plan.rows y row found.there)
    ∙ sym (ap (option_and_then (λ r. option_and_then (λ z. option_map (λ link. record { from = y; link = link; to = z }) (link_of src r (choice src r) s)) (carrier r (choice src r) s))) found.there)

pub row_none : (x : ExcerptValue) (y : ℕ) (o : Option Row) → row_at x.plan.rows y ≡ o → state_at x y ≡ None → o ≡ None
row_none x y None at none = refl
row_none x y (Some row) at none = let there : Some (state_of (source_of x) row (choice (source_of x) row)) ≡ None = sym (state_there x y row at) ∙ none in cc

-- a point with no row has no hop
pub hop_none : (x : ExcerptValue) (y s : ℕ) → state_at x y ≡ None → None ≡ hop_of (source_of x) y s
hop_none x y s none =
    let src : Source = source_of x in
    sym (ap (option_and_then (λ r. option_and_then (λ z. option_map (λ link. record { from = y; link = link; to = z }) (link_of src r (choice src r) s)) (carrier r (choice src r) s))) (row_none x y (row_at x.plan.rows y) refl none))

-- ---- the choices of all rows by what is kept

opened_all : (src : Source) (rows : List Row) → All IsSmall rows → opened_rows src rows (map (λ row. kept (choice src row)) rows) ≡ map (choice src) rows
opened_all src [] small = refl
opened_all src (row ∷ rows) small =
    let first = opened_back src row (status src) (All-head IsSmall row rows small) in
    let rest = opened_all src rows (All-tail IsSmall row rows small) in
    rw (first, rest) refl

-- what is kept opens to the choices from scratch
pub opened_chosen : (x : ExcerptValue) → IsRight x → (choices : List KeptValue) → IsChosen x choices → opened_rows (source_of x) x.plan.rows choices ≡ map (choice (source_of x)) x.plan.rows
opened_chosen x right choices is = ap (opened_rows (source_of x) x.plan.rows) is ∙ opened_all (source_of x) x.plan.rows (rows_small (source_of x) right.valid)

statuses_opened : (src : Source) (rows : List Row) → statuses_of (map (choice src) rows) ≡ kept_statuses (map (λ row. kept (choice src row)) rows)
statuses_opened src [] = refl
statuses_opened src (row ∷ rows) = ap (λ fs. (choice src row).status ∷ fs) (statuses_opened src rows)

-- and has their statuses
pub statuses_kept : (x : ExcerptValue) → IsRight x → (choices : List KeptValue) → IsChosen x choices → statuses_of (opened_rows (source_of x) x.plan.rows choices) ≡ kept_statuses choices
statuses_kept x right choices is = ap statuses_of (opened_chosen x right choices is) ∙ statuses_opened (source_of x) x.plan.rows ∙ ap kept_statuses (sym is)
