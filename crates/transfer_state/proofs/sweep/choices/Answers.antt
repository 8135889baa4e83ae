use Rattle.excerpts.specs.Excerpt.{source_of}
use Rattle.profile.proofs.UnfoldingLemmas.{row_valid}
use Rattle.profile.proofs.PlacingLemmas.{row_at_place}
use Rattle.transfer_state.proofs.SweepLemmas.{first_swept, written_back}
use Rattle.std.proofs.Common.{◌≡◌, ◌≤◌, arith, ap, sym, ◌∙◌, subst, List, length, slice_get}
use Rattle.net_items.specs.declared.lists.Row.{Row}
use Rattle.transfer_state.specs.Kept.{KeptValue}
use Rattle.transfer_state.specs.Told.{HasRanks}
use Rattle.transfer_state.proofs.sweep.choices.Goals as goal

-- no row has a rank below 1
pub loop-rank-init : goal.loop-rank-init
loop-rank-init c =
    let first = first_swept (source_of c.args.e.now) c.validity.ensures.valid c.tell.new.fars c.dest.result c.dest.ensures (omega arith) c.tell.ensures in
    record {
      ranked = omega arith;
      together = omega (arith, c.in_ok-choices.ensures.len, ap (length {A = Row}) c.rows_of-rows.ensures);
      coded = first.0;
      below = λ i row there low. absurd (omega (arith, low, (row_valid (source_of c.args.e.now) c.validity.ensures.valid row.point row (row_at_place (source_of c.args.e.now) c.validity.ensures.valid i row there)).1.ranked));
      told = first.1;
    }

-- no rank is above the highest
pub returns-clause-each : goal.returns-clause-each
returns-clause-each c = λ i row there.
    let low : row.rank ≤ c.ranks_of-ranks.result.highest = c.ranks_of-ranks.ensures.highest i row (ap (λ (rows : List Row). slice_get rows i) c.rows_of-rows.ensures ∙ there) in
    c.loop-rank.invariant.below i row there (omega (arith, low, c.from-rank-end.ensures, c.loop-rank-test.false))

pub sweep_if_used-requires : goal.sweep_if_used-requires
sweep_if_used-requires c =
    let l = c.loop-rank in
    let rows = c.args.e.now.plan.rows in
    record {
      together = ap (length {A = KeptValue}) c.deref_mut.ensures.value ∙ l.invariant.together;
      coded = l.invariant.coded;
      ranked = (l.invariant.ranked, omega arith);
      used = subst (λ (rows : List Row). HasRanks rows c.ranks_of-ranks.result.used) c.rows_of-rows.ensures c.ranks_of-ranks.ensures.used;
      below = rw c.deref_mut.ensures.value l.invariant.below;
      told = l.invariant.told;
    }

-- the slice of the choices is written back
pub loop-rank-preserved : goal.loop-rank-preserved
loop-rank-preserved c =
    let l = c.loop-rank in
    let new : List KeptValue = c.sweep_if_used.new.choices in
    let long : length new ≡ length l.choices.items = c.sweep_if_used.auto.choices ∙ ap (length {A = KeptValue}) c.deref_mut.ensures.value in
    rw (written_back l.choices.len new l.choices.items (long ∙ sym l.choices.ok.0)) (record {
      ranked = omega arith;
      together = long ∙ l.invariant.together;
      coded = c.sweep_if_used.auto.fars ∙ l.invariant.coded;
      below = c.sweep_if_used.ensures.below;
      told = c.sweep_if_used.ensures.told;
    })

pub returns-clause-together : goal.returns-clause-together
returns-clause-together c = c.loop-rank.invariant.together
