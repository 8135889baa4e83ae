use Rattle.std.proofs.Common.{◌≡◌, ◌<◌, Some, ap, sym, ◌∙◌, subst, arith, length, refl, inl, inr}
use Rattle.std.specs.Prelude.{slice_get}
use Rattle.std.proofs.lemmas.Bool.Decides.{not_from_Decides}
use Rattle.std.proofs.lemmas.Option.{get_or_from_slice_get, slice_get_within}
use Rattle.net_items.specs.declared.lists.Row.{Row}
use Rattle.profile.specs.declared.tables.RowState.{RowState}
use Rattle.profile.specs.Status.{Source}
use Rattle.profile.specs.Valid.{IsSmall}
use Rattle.excerpts.specs.Excerpt.{source_of}
use Rattle.profile.proofs.CertificateLemmas.{settled_table}
use Rattle.transfer_state.specs.Complaints.{HasPoints}
use Rattle.transfer_state.proofs.SweepLemmas.{rows_small}
use Rattle.transfer_state.proofs.MatchLemmas.{points_at, points_length, state_read, element_read, right_before_more, settled_by_rows, complaint_wrong}
use Rattle.transfer_state.proofs.complaints.check.Goals as goal

pub returns-then-not-has_points-clause-wrong : goal.returns-then-not-has_points-clause-wrong
returns-then-not-has_points-clause-wrong c =
    complaint_wrong (source_of c.args.e.now) c.args.table.now c.validity.ensures.valid _
    (inl (record { clause = refl; point = c.dest.ensures; wrong = not_from_Decides _ c.has_points.ensures c.if-not-has_points.true }))

pub bounds-states-i : goal.bounds-states-i
bounds-states-i c =
    let has : HasPoints (source_of c.args.e.now) c.args.table.now = c.has_points.ensures.0 c.if-not-has_points.false in
    subst (λ n. c.loop-i.i < n)
    (ap (length {A = Row}) c.rows_of-rows.ensures ∙ sym (points_length c.args.table.now.rows c.args.e.now.plan.rows has.points) ∙ ap (length {A = RowState}) (sym c.as_slice-states.ensures))
    c.loop-i-test.true

pub fault_in-requires-clause-small : goal.fault_in-requires-clause-small
fault_in-requires-clause-small c =
    let src : Source = source_of c.args.e.now in
    let row : Row = c.index-rows-i.result in
    let at : slice_get src.rows c.loop-i.i ≡ Some row = element_read c.rows_of-rows.result.now src.rows c.loop-i.i row c.rows_of-rows.ensures c.loop-i-test.true c.index-rows-i.is in
    subst IsSmall (get_or_from_slice_get src.rows c.loop-i.i row row at) (rows_small src c.validity.ensures.valid c.loop-i.i row (slice_get_within src.rows c.loop-i.i row at))

pub fault_in-requires-clause-point : goal.fault_in-requires-clause-point
fault_in-requires-clause-point c =
    let has : HasPoints (source_of c.args.e.now) c.args.table.now = c.has_points.ensures.0 c.if-not-has_points.false in
    points_at c.args.table.now.rows c.args.e.now.plan.rows c.loop-i.i c.index-states-i.result c.index-rows-i.result has.points
    (state_read c.args.table.now.rows c.args.e.now.plan.rows c.as_slice-states.result.now c.rows_of-rows.result.now c.loop-i.i c.index-states-i.result has.points c.as_slice-states.ensures c.rows_of-rows.ensures c.loop-i-test.true c.index-states-i.is)
    (element_read c.rows_of-rows.result.now c.args.e.now.plan.rows c.loop-i.i c.index-rows-i.result c.rows_of-rows.ensures c.loop-i-test.true c.index-rows-i.is)

pub returns-in-Some-clause-first : goal.returns-in-Some-clause-first
returns-in-Some-clause-first c =
    let has : HasPoints (source_of c.args.e.now) c.args.table.now = c.has_points.ensures.0 c.if-not-has_points.false in
    inr (record {
      points = has;
      position = c.loop-i.i;
      row = c.index-rows-i.result;
      state = c.index-states-i.result;
      row_at = element_read c.rows_of-rows.result.now c.args.e.now.plan.rows c.loop-i.i c.index-rows-i.result c.rows_of-rows.ensures c.loop-i-test.true c.index-rows-i.is;
      state_at = state_read c.args.table.now.rows c.args.e.now.plan.rows c.as_slice-states.result.now c.rows_of-rows.result.now c.loop-i.i c.index-states-i.result has.points c.as_slice-states.ensures c.rows_of-rows.ensures c.loop-i-test.true c.index-states-i.is;
      before = c.loop-i.invariant;
      point = refl;
      wrong = c.in-Some.ensures;
    })

pub returns-in-Some-clause-wrong : goal.returns-in-Some-clause-wrong
returns-in-Some-clause-wrong c = complaint_wrong (source_of c.args.e.now) c.args.table.now c.validity.ensures.valid _ (returns-in-Some-clause-first c)

pub loop-i-preserved : goal.loop-i-preserved
loop-i-preserved c =
    let has : HasPoints (source_of c.args.e.now) c.args.table.now = c.has_points.ensures.0 c.if-not-has_points.false in
    right_before_more (source_of c.args.e.now) c.args.table.now c.loop-i.i c.index-rows-i.result c.index-states-i.result
    (element_read c.rows_of-rows.result.now c.args.e.now.plan.rows c.loop-i.i c.index-rows-i.result c.rows_of-rows.ensures c.loop-i-test.true c.index-rows-i.is)
    (state_read c.args.table.now.rows c.args.e.now.plan.rows c.as_slice-states.result.now c.rows_of-rows.result.now c.loop-i.i c.index-states-i.result has.points c.as_slice-states.ensures c.rows_of-rows.ensures c.loop-i-test.true c.index-states-i.is)
    c.in_default.ensures c.loop-i.invariant

pub returns-clause-settled : goal.returns-clause-settled
returns-clause-settled c =
    let count = ap (length {A = Row}) c.rows_of-rows.ensures in
    settled_by_rows (source_of c.args.e.now) c.args.table.now (c.has_points.ensures.0 c.if-not-has_points.false)
    (λ k row state row_at state_at. c.loop-i.invariant k row state (omega (arith, count, slice_get_within c.args.e.now.plan.rows k row row_at, c.loop-i-test.false)) row_at state_at)

pub returns-clause-scratch : goal.returns-clause-scratch
returns-clause-scratch c = settled_table (source_of c.args.e.now) c.validity.ensures.valid c.args.table.now (returns-clause-settled c)
