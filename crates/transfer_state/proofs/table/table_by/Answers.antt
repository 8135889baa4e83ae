use Rattle.std.proofs.Common.{◌≡◌, ℕ, ◌∙◌, ap, refl, subst, arith, List, length, Some, ◌++◌, map, drop, ◌+◌, get_or, sym, ◌<◌}
use Rattle.std.specs.Prelude.{slice_get}
use Rattle.std.proofs.lemmas.List.{length-map}
use Rattle.std.proofs.lemmas.Option.{get_or_from_slice_get, slice_get_within}
use Rattle.net_items.specs.declared.lists.Row.{Row}
use Rattle.route_choice.specs.declared.choices.Choice.{Choice}
use Rattle.profile.specs.declared.tables.RowState.{RowState}
use Rattle.profile.specs.Status.{Source, choice, status}
use Rattle.profile.specs.Valid.{IsSmall}
use Rattle.excerpts.specs.Excerpt.{source_of}
use Rattle.profile.specs.Whole.{state_of, scratch}
use Rattle.transfer_state.specs.Kept.{KeptValue, kept, opened}
use Rattle.transfer_state.proofs.KeptLemmas.{opened_back}
use Rattle.transfer_state.proofs.SweepLemmas.{rows_small}
use Rattle.transfer_state.proofs.TableLemmas.{made_more, made_all, state_made}
use Rattle.transfer_state.proofs.MatchLemmas.{element_read, map_at}
use Rattle.transfer_state.proofs.table.table_by.Goals as goal

pub bounds-rows-i : goal.bounds-rows-i
bounds-rows-i c = c.loop-i-test.true

pub bounds-choices-i : goal.bounds-choices-i
bounds-choices-i c =
    let src : Source = source_of c.args.e.now in
    let together : length c.args.choices.now ≡ length src.rows = ap (length {A = KeptValue}) c.requires ∙ length-map src.rows (λ r. kept (choice src r)) in
    subst (λ n. c.loop-i.i < n) (ap (length {A = Row}) c.rows_of-rows.ensures ∙ sym together) c.loop-i-test.true

pub size_of-size-requires : goal.size_of-size-requires
size_of-size-requires c =
    let src : Source = source_of c.args.e.now in
    let row : Row = c.index-rows-i.result in
    let at : slice_get src.rows c.loop-i.i ≡ Some row = element_read c.rows_of-rows.result.now src.rows c.loop-i.i row c.rows_of-rows.ensures c.loop-i-test.true c.index-rows-i.is in
    subst IsSmall (get_or_from_slice_get src.rows c.loop-i.i row row at) (rows_small src c.validity.ensures.valid c.loop-i.i row (slice_get_within src.rows c.loop-i.i row at))

pub loop-i-init : goal.loop-i-init
loop-i-init c = rw c.in_ok-list.ensures.items refl

pub loop-i-preserved : goal.loop-i-preserved
loop-i-preserved c =
    let src : Source = source_of c.args.e.now in
    let row : Row = c.index-rows-i.result in
    let its : KeptValue = c.index-choices-i.result in
    let chosen : Choice = c.opened_choice-choice.result in
    let at : slice_get src.rows c.loop-i.i ≡ Some row = element_read c.rows_of-rows.result.now src.rows c.loop-i.i row c.rows_of-rows.ensures c.loop-i-test.true c.index-rows-i.is in
    let low : c.loop-i.i < length src.rows = slice_get_within src.rows c.loop-i.i row at in
    let is : row ≡ get_or src.rows c.loop-i.i row = sym (get_or_from_slice_get src.rows c.loop-i.i row row at) in
    let together : length c.args.choices.now ≡ length src.rows = ap (length {A = KeptValue}) c.requires ∙ length-map src.rows (λ r. kept (choice src r)) in
    let within : c.loop-i.i < length c.args.choices.now = omega (arith, together, low) in
    let there : slice_get c.args.choices.now c.loop-i.i ≡ Some its = element_read c.args.choices.now c.args.choices.now c.loop-i.i its refl within c.index-choices-i.is in
    let small : IsSmall row = subst IsSmall (sym is) (rows_small src c.validity.ensures.valid c.loop-i.i row low) in
    let right : chosen ≡ choice src row = c.opened_choice-choice.ensures ∙ ap (opened src row) (map_at (λ r. kept (choice src r)) c.args.choices.now src.rows c.loop-i.i row its c.requires at there) ∙ opened_back src row (status src) small in
    ap (λ (l : List RowState). l ++ map (λ r. state_of src r (choice src r)) (drop (c.loop-i.i + 1) src.rows)) c.in_ok-push.ensures.items
    ∙ made_more (λ r. state_of src r (choice src r)) src.rows c.loop-i.i row c.loop-i.list.items _ _ low
    (state_made src row chosen (choice src row) c.links_of-links.result c.in_ok-messages.messages c.links_of-links.ensures c.in_ok-messages.ensures right
    ∙ ap (λ (r : Row). state_of src r (choice src r)) is)
    c.loop-i.invariant

pub returns : goal.returns
returns c =
    let src : Source = source_of c.args.e.now in
    let count = ap (length {A = Row}) c.rows_of-rows.ensures in
    let rows : c.from_vec.result ≡ (scratch src).rows
    = c.from_vec.ensures ∙ made_all (λ (r : Row). state_of src r (choice src r)) src.rows c.loop-i.i c.loop-i.list.items _ (omega (arith, count, c.loop-i-test.false)) c.loop-i.invariant in
    ap (λ (d : ℕ). record { dest = d; rows = c.from_vec.result }) c.dest.ensures ∙ ap (λ (all : List RowState). record { dest = src.dest; rows = all }) rows
