use Rattle.std.proofs.Common.{◌≡◌, ◌+◌, ◌<◌, ◌∙◌, Some, List, length, set, refl, ap, sym, subst, arith}
use Rattle.std.specs.Prelude.{slice_get}
use Rattle.std.proofs.lemmas.Option.{slice_get_within}
use Rattle.net_items.specs.declared.lists.Row.{Row}
use Rattle.route_choice.specs.declared.choices.Far.{Far}
use Rattle.excerpts.specs.Excerpt.{source_of}
use Rattle.transfer_state.specs.Kept.{KeptValue}
use Rattle.transfer_state.specs.Told.{TellsKept}
use Rattle.transfer_state.proofs.HearingLemmas.{told_more}
use Rattle.transfer_state.proofs.MatchLemmas.{element_read}
use Rattle.transfer_state.proofs.auditing.tell_kept.Goals as goal

pub loop-i-preserved : goal.loop-i-preserved
loop-i-preserved c =
    let row : Row = c.index-rows-i.result in
    let k : KeptValue = c.index-kept-i.result in
    let here : slice_get c.args.e.now.plan.rows c.loop-i.i ≡ Some row = element_read c.rows_of-rows.result.now c.args.e.now.plan.rows c.loop-i.i row c.rows_of-rows.ensures c.loop-i-test.true c.index-rows-i.is in
    let low : c.loop-i.i < length c.args.kept.now = omega (arith, slice_get_within c.args.e.now.plan.rows c.loop-i.i row here, c.requires.together) in
    let there : slice_get c.args.kept.now c.loop-i.i ≡ Some k = element_read c.args.kept.now c.args.kept.now c.loop-i.i k refl low c.index-kept-i.is in
    let is : c.tell-in-loop-i.new.fars ≡ set c.loop-i.fars row.point k.status =
    c.tell-in-loop-i.ensures ∙ ap (λ (r : Row). set c.loop-i.fars r.point c.status.result) (sym c.index-rows-i.is) ∙ ap (set c.loop-i.fars row.point) c.status.ensures in
    subst (λ (fars : List Far). TellsKept (source_of c.args.e.now) c.args.kept.now fars (c.loop-i.i + 1)) (sym is) (told_more c.args.e.now c.validity.ensures c.args.kept.now c.loop-i.fars c.loop-i.i row k here there c.loop-i.invariant)
