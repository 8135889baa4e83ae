use Rattle.std.proofs.Common.{ap, false, sym, ◌∙◌}
use Rattle.std.specs.Prelude.{slice_index_or}
use Rattle.excerpts.specs.Excerpt.{source_of}
use Rattle.transfer_state.proofs.SweepLemmas.{skipped_below, skipped_told, unused_rank}
use Rattle.transfer_state.proofs.sweep.sweep_if_used.Goals as goal

pub returns-else-used-from-clause-below : goal.returns-else-used-from-clause-below
returns-else-used-from-clause-below c =
    skipped_below (source_of c.args.e.now) c.validity.ensures.valid c.args.choices.now c.args.rank c.requires.below
    (unused_rank c.args.e.now.plan.rows c.args.used.now c.args.rank c.requires.used (ap (λ k. slice_index_or c.args.used.now k false) (sym c.from.ensures) ∙ c.if-used-from.false))

pub returns-else-used-from-clause-told : goal.returns-else-used-from-clause-told
returns-else-used-from-clause-told c =
    skipped_told (source_of c.args.e.now) c.validity.ensures.valid c.args.fars.now c.args.rank c.requires.ranked.0 c.requires.told
    (unused_rank c.args.e.now.plan.rows c.args.used.now c.args.rank c.requires.used (ap (λ k. slice_index_or c.args.used.now k false) (sym c.from.ensures) ∙ c.if-used-from.false))
