use Rattle.std.proofs.Common.{sym, ◌∙◌}
use Rattle.dirty_sets.proofs.ReadingLemmas.{joins_none}
use Rattle.dirty_sets.proofs.reading.joins_via_of.Goals as goal

pub returns-then-not-ends_at-clause-none : goal.returns-then-not-ends_at-clause-none
returns-then-not-ends_at-clause-none c = λ _e.
    joins_none c.args.points.now c.args.plan.now c.args.set.now c.requires.leads c.requires.first_end c.requires.second_end (sym c.ends_at.ensures ∙ c.if-not-ends_at.true)
