use Rattle.std.proofs.Common.{◌≡◌, ◌<◌, Some, length, refl, ap, arith}
use Rattle.std.specs.Prelude.{slice_get}
use Rattle.std.proofs.lemmas.Option.{slice_get_within}
use Rattle.net_items.specs.declared.lists.Row.{Row}
use Rattle.profile.specs.declared.tables.Table.{Table}
use Rattle.profile.specs.Status.{Source}
use Rattle.profile.specs.Whole.{state_of}
use Rattle.profile.proofs.PlacingLemmas.{row_at_place}
use Rattle.excerpts.specs.Excerpt.{source_of}
use Rattle.transfer_state.specs.Complaints.{kept_table}
use Rattle.transfer_state.specs.Kept.{KeptValue, opened}
use Rattle.transfer_state.proofs.AuditLemmas.{kept_at, kept_points}
use Rattle.transfer_state.proofs.MatchLemmas.{element_read, right_before_more, settled_by_rows}
use Rattle.transfer_state.proofs.auditing.check_choices.Goals as goal

pub returns-in-Some-clause-first : goal.returns-in-Some-clause-first
returns-in-Some-clause-first c =
    let src : Source = source_of c.args.e.now in
    let table : Table = kept_table src c.args.kept.now in
    let row : Row = c.index-rows-i.result in
    let k : KeptValue = c.index-kept-i.result in
    let here : slice_get src.rows c.loop-i.i ≡ Some row = element_read c.rows_of-rows.result.now src.rows c.loop-i.i row c.rows_of-rows.ensures c.loop-i-test.true c.index-rows-i.is in
    let low : c.loop-i.i < length c.args.kept.now = omega (arith, slice_get_within src.rows c.loop-i.i row here, c.requires) in
    let there : slice_get c.args.kept.now c.loop-i.i ≡ Some k = element_read c.args.kept.now c.args.kept.now c.loop-i.i k refl low c.index-kept-i.is in
    record {
      points = kept_points src c.args.kept.now c.requires;
      position = c.loop-i.i;
      row = row;
      state = state_of src row (opened src row k);
      row_at = here;
      state_at = kept_at src c.args.kept.now c.loop-i.i row k here there;
      before = c.loop-i.invariant;
      point = refl;
      wrong = c.in-Some.ensures.wrong;
    }

pub loop-i-preserved : goal.loop-i-preserved
loop-i-preserved c =
    let src : Source = source_of c.args.e.now in
    let row : Row = c.index-rows-i.result in
    let k : KeptValue = c.index-kept-i.result in
    let here : slice_get src.rows c.loop-i.i ≡ Some row = element_read c.rows_of-rows.result.now src.rows c.loop-i.i row c.rows_of-rows.ensures c.loop-i-test.true c.index-rows-i.is in
    let low : c.loop-i.i < length c.args.kept.now = omega (arith, slice_get_within src.rows c.loop-i.i row here, c.requires) in
    let there : slice_get c.args.kept.now c.loop-i.i ≡ Some k = element_read c.args.kept.now c.args.kept.now c.loop-i.i k refl low c.index-kept-i.is in
    right_before_more src (kept_table src c.args.kept.now) c.loop-i.i row (state_of src row (opened src row k)) here (kept_at src c.args.kept.now c.loop-i.i row k here there)
    (ap (state_of src row) c.in_default.ensures.right) c.loop-i.invariant

pub returns-clause-settled : goal.returns-clause-settled
returns-clause-settled c =
    let src : Source = source_of c.args.e.now in
    let count = ap (length {A = Row}) c.rows_of-rows.ensures in
    settled_by_rows src (kept_table src c.args.kept.now) (kept_points src c.args.kept.now c.requires)
    (λ k row state row_at state_at. c.loop-i.invariant k row state (omega (arith, count, slice_get_within src.rows k row row_at, c.loop-i-test.false)) row_at state_at)

pub fault_kept-requires-clause-planned : goal.fault_kept-requires-clause-planned
fault_kept-requires-clause-planned c =
    row_at_place (source_of c.args.e.now) c.validity.ensures.valid c.loop-i.i c.index-rows-i.result
    (element_read c.rows_of-rows.result.now (source_of c.args.e.now).rows c.loop-i.i c.index-rows-i.result c.rows_of-rows.ensures c.loop-i-test.true c.index-rows-i.is)
