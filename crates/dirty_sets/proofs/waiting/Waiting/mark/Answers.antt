use Rattle.std.proofs.Common.{reverse, ap, ◌∙◌}
use Rattle.dirty_sets.specs.Entries.{marked, tasks_of}
use Rattle.dirty_sets.proofs.WaitingEntryLemmas.{tasks-set_value_at, small-set_value_at}
use Rattle.dirty_sets.proofs.WaitingTurnLemmas.{marked_turned, turn_of}
use Rattle.dirty_sets.proofs.waiting.Waiting.mark.Goals as goal

pub invariant_of-self : goal.invariant_of-self
invariant_of-self c = small-set_value_at c.self.inside.entries.entries c.turned-entry.result c.args.is_out c.self.invariant

pub returns : goal.returns
returns c =
    ap reverse (tasks-set_value_at c.self.inside.entries.entries c.turned-entry.result c.args.is_out)
    ∙ (marked_turned (tasks_of c.self.inside.entries.entries) c.turned-entry.result c.args.position c.args.is_out (turn_of c.self.inside.entries.entries c.args.self.now c.turned-entry.result c.args.position c.self.view_is c.turned-entry.ensures)
    ∙ ap (marked c.args.position c.args.is_out) c.self.view_is)
