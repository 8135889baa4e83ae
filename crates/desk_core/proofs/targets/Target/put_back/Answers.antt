use Rattle.std.proofs.Common.{ap, rules, ◌∙◌}
use Rattle.dirty_sets.specs.Waiting.{is_out}
use Rattle.desk_core.specs.Targets.{TargetValue}
use Rattle.desk_core.proofs.TargetLemmas.{filled-put_last}
use Rattle.desk_core.proofs.targets.Target.put_back.Goals as goal

pub invariant_of-self : goal.invariant_of-self
invariant_of-self c =
    record {
      filled = rw (c.put_last.ensures, c.deref_mut.ensures.value) (filled-put_last c.self.inside.parts.value.net c.self.inside.parts.value.waiting c.self.inside.parts.value.slots.items c.self.invariant.filled c.args.dest (ap (λ (t : TargetValue). is_out t.tasks c.args.dest) c.self.view_is ∙ c.requires));
      differs = rw (c.deref_mut.ensures.value) c.self.invariant.differs;
    }

pub returns : goal.returns
returns c = search rules
