use Rattle.std.proofs.Common.{◌≡◌, arith, ap, sym, ◌∙◌, Some, length, set, subst, List, refl, ◌+◌}
use Rattle.std.specs.Prelude.{slice_get}
use Rattle.std.proofs.lemmas.Option.{slice_get_read}
use Rattle.net_items.specs.declared.lists.Row.{Row}
use Rattle.route_choice.specs.declared.choices.Far.{Far}
use Rattle.transfer_state.specs.Kept.{KeptValue}
use Rattle.excerpts.specs.Excerpt.{source_of}
use Rattle.transfer_state.proofs.SweepLemmas.{IsSwept, swept_more, swept_past, swept_all, told_all, nothing_swept}
use Rattle.transfer_state.proofs.sweep.sweep_rank.Goals as goal
use Rattle.transfer_state.proofs.sweep.sweep_rank.Goals.{then-from-rank, else-from-rank}

pub loop-i-init : goal.loop-i-init
loop-i-init c = nothing_swept (source_of c.args.e.now) c.validity.ensures.valid c.args.choices.now c.args.fars.now c.args.rank c.requires.together c.requires.coded c.requires.below c.requires.told

pub loop-i-preserved : goal.loop-i-preserved
loop-i-preserved c =
    let at : slice_get c.args.e.now.plan.rows c.loop-i.i ≡ Some c.index-rows-i.result
    = ap (λ (rows : List Row). slice_get rows c.loop-i.i) (sym c.rows_of-rows.ensures)
    ∙ slice_get_read c.rows_of-rows.result.now (length c.rows_of-rows.result.now) c.loop-i.i c.index-rows-i.result refl (omega arith) c.index-rows-i.is in
    elim c.if-from-rank.branch [
      | then-from-rank w ↦
          subst (λ (s : List KeptValue). IsSwept (source_of c.args.e.now) s c.if-from-rank.fars c.args.rank (c.loop-i.i + 1)) (sym (w.choices-is ∙ w.put_choice.ensures.choices))
          (subst (λ (f : List Far). IsSwept (source_of c.args.e.now) (set c.loop-i.choices c.loop-i.i w.kept_choice-choice.result) f c.args.rank (c.loop-i.i + 1)) (sym (w.fars-is ∙ w.put_choice.ensures.fars))
          (swept_more (source_of c.args.e.now) c.validity.ensures.valid c.loop-i.choices c.loop-i.fars c.args.rank c.loop-i.i c.index-rows-i.result w.kept_choice-choice.result at (sym c.from.ensures ∙ w.if-from-rank.true)
          c.loop-i.invariant w.kept_choice-choice.ensures))
      | else-from-rank w ↦
          subst (λ (s : List KeptValue). IsSwept (source_of c.args.e.now) s c.if-from-rank.fars c.args.rank (c.loop-i.i + 1)) (sym w.choices-is)
          (subst (λ (f : List Far). IsSwept (source_of c.args.e.now) c.loop-i.choices f c.args.rank (c.loop-i.i + 1)) (sym w.fars-is)
          (swept_past (source_of c.args.e.now) c.validity.ensures.valid c.loop-i.choices c.loop-i.fars c.args.rank c.loop-i.i c.index-rows-i.result at (λ e. w.if-from-rank.false (c.from.ensures ∙ e)) c.loop-i.invariant))
    ]

pub returns-clause-below : goal.returns-clause-below
returns-clause-below c =
    let count = ap (length {A = Row}) c.rows_of-rows.ensures in
    swept_all (source_of c.args.e.now) c.validity.ensures.valid c.loop-i.choices c.loop-i.fars c.args.rank c.loop-i.i c.loop-i.invariant (omega (arith, count, c.loop-i-test.false))

pub returns-clause-told : goal.returns-clause-told
returns-clause-told c =
    let count = ap (length {A = Row}) c.rows_of-rows.ensures in
    told_all (source_of c.args.e.now) c.validity.ensures.valid c.loop-i.choices c.loop-i.fars c.args.rank c.loop-i.i c.requires.ranked c.loop-i.invariant (omega (arith, count, c.loop-i-test.false))
