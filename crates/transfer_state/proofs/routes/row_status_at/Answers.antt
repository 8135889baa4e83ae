use Rattle.std.proofs.Common.{◌≡◌, ◌<◌, Some, length, refl, ap, sym, ◌∙◌, arith, subst}
use Rattle.std.specs.Prelude.{slice_get}
use Rattle.std.specs.Option.{option_map}
use Rattle.std.proofs.lemmas.List.{length-map}
use Rattle.std.proofs.lemmas.Option.{get_or_from_slice_get}
use Rattle.net_items.specs.declared.lists.Row.{Row}
use Rattle.net_items.specs.Keyed.{IsFoundAt}
use Rattle.net_items.specs.Lookups.{row_at}
use Rattle.profile.specs.declared.tables.RowState.{RowState}
use Rattle.profile.specs.Status.{choice}
use Rattle.excerpts.specs.Excerpt.{source_of}
use Rattle.transfer_state.specs.Kept.{KeptValue, kept, opened}
use Rattle.transfer_state.specs.Routing.{IsFoundRow}
use Rattle.transfer_state.proofs.MatchLemmas.{element_read}
use Rattle.transfer_state.proofs.RouteLemmas.{found_row}
use Rattle.transfer_state.proofs.routes.row_status_at.Goals as goal

pub returns-in-Ok : goal.returns-in-Ok
returns-in-Ok c =
    let x = c.args.e.now in
    let row : Row = c.index-rows-at.result in
    let its : KeptValue = c.index-choices-at.result in
    let found : IsFoundAt (λ (r : Row). r.point) c.args.point x.plan.rows c.in-Ok.at = c.in-Ok.ensures.found in
    let here : slice_get x.plan.rows c.in-Ok.at ≡ Some row = element_read c.rows_of-rows.result.now x.plan.rows c.in-Ok.at row c.rows_of-rows.ensures (rw c.rows_of-rows.ensures found.in_range) c.index-rows-at.is in
    let together : length c.args.choices.now ≡ length x.plan.rows = ap (length {A = KeptValue}) c.requires ∙ length-map x.plan.rows (λ r. kept (choice (source_of x) r)) in
    let low : c.in-Ok.at < length c.args.choices.now = let within = found.in_range in omega (arith, together, within) in
    let there : slice_get c.args.choices.now c.in-Ok.at ≡ Some its = element_read c.args.choices.now c.args.choices.now c.in-Ok.at its refl low c.index-choices-at.is in
    let at : row_at x.plan.rows c.args.point ≡ Some row = found.finds row ∙ ap Some (get_or_from_slice_get x.plan.rows c.in-Ok.at row row here) in
    let told : IsFoundRow x c.args.point row (opened (source_of x) row its) = found_row x c.validity.ensures c.args.choices.now c.requires c.args.point c.in-Ok.at row its (opened (source_of x) row its) at here there refl in
    ap Some c.status.ensures ∙ sym (ap (option_map (λ (s : RowState). s.choice.status)) told.state)

pub bounds-rows-at : goal.bounds-rows-at
bounds-rows-at c = let within = c.in-Ok.ensures.found.in_range in rw c.rows_of-rows.ensures within

pub bounds-choices-at : goal.bounds-choices-at
bounds-choices-at c =
    let x = c.args.e.now in
    let together : length c.args.choices.now ≡ length x.plan.rows = ap (length {A = KeptValue}) c.requires ∙ length-map x.plan.rows (λ r. kept (choice (source_of x) r)) in
    subst (λ n. c.in-Ok.at < n) (sym together) c.in-Ok.ensures.found.in_range
