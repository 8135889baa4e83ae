use Rattle.std.proofs.Common.{sym, subst}
use Rattle.net_items.specs.Keyed.{IsRising}
use Rattle.excerpts.specs.declared.index.Joint.{Joint}
use Rattle.excerpts.proofs.joints.Joints.of_point.Goals as goal

pub joints_among-requires-clause-rise : goal.joints_among-requires-clause-rise
joints_among-requires-clause-rise c = subst (IsRising (λ (j : Joint). j.pair)) (sym c.as_slice-2.ensures.value) c.self.invariant.0
