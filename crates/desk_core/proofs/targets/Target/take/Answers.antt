use Rattle.std.proofs.Common.{ap, sym, subst, Err, ◌∙◌}
use Rattle.dirty_sets.specs.Waiting.{first_waiting}
use Rattle.excerpts.specs.Excerpt.{excerpt_at}
use Rattle.excerpts.specs.declared.faults.ExcerptFault.{ExcerptFault}
use Rattle.work_units.specs.Work.{IsJob}
use Rattle.desk_core.specs.Targets.{TargetValue}
use Rattle.desk_core.specs.declared.targets.Parts.{Parts}
use Rattle.desk_core.proofs.TargetLemmas.{filled-taken, first_planned, planned_job}
use Rattle.desk_core.proofs.targets.Target.take.Goals as goal

pub invariant_of-self : goal.invariant_of-self
invariant_of-self c = record {
  filled = rw (c.take_first.ensures.after, c.deref_mut.ensures.value) (filled-taken c.self.inside.parts.value.net c.self.inside.parts.value.waiting c.self.inside.parts.value.slots.items c.self.invariant.filled);
  differs = rw (c.deref_mut.ensures.value) c.self.invariant.differs;
}

pub unreachable-requires : goal.unreachable-requires
unreachable-requires c =
    planned_job c.self.inside.parts.value.net c.in-Some.dest c.self.inside.parts.value.number
    (first_planned c.self.inside.parts.value.net c.self.inside.parts.value.waiting c.self.inside.parts.value.slots.items c.self.invariant.filled c.in-Some.dest
    (ap (λ (p : Parts). first_waiting p.waiting) (sym c.deref.ensures) ∙ sym c.in-Some.ensures))
    (subst (λ (t : TargetValue). IsJob t.number (excerpt_at t.network c.in-Some.dest) (Err ExcerptFault.NoPlan)) (sym c.self.view_is)
    (subst (λ (fault : ExcerptFault). IsJob c.args.self.now.number (excerpt_at c.args.self.now.network c.in-Some.dest) (Err fault)) c.in-Err-NoPlan.field-0-is c.in-Err-NoPlan.ensures))
