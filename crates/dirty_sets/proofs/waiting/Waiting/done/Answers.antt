use Rattle.std.proofs.Common.{◌<◌, ℕ, Bool, remove, reverse, ap, ◌∙◌, sym, subst}
use Rattle.std.specs.List.{AllByRecursion}
use Rattle.dirty_sets.specs.Entries.{tasks_of}
use Rattle.dirty_sets.proofs.WaitingEntryLemmas.{tasks-remove, All-remove}
use Rattle.dirty_sets.proofs.WaitingTurnLemmas.{remove_turned, turn_of}
use Rattle.dirty_sets.proofs.waiting.Waiting.done.Goals as goal

pub invariant_of-self : goal.invariant_of-self
invariant_of-self c =
    subst (AllByRecursion (λ (e : ℕ × Bool). e.0 < 16384)) (sym c.shift_remove_index.ensures.entries) (All-remove (λ (e : ℕ × Bool). e.0 < 16384) c.self.inside.entries.entries c.turned-entry.result c.self.invariant)

pub returns-in-Some : goal.returns-in-Some
returns-in-Some c =
    let es = c.self.inside.entries.entries in
    let turn = turn_of es c.args.self.now c.turned-entry.result c.in-Some.position c.self.view_is c.turned-entry.ensures in
    ap (λ fs. reverse (tasks_of fs)) c.shift_remove_index.ensures.entries
    ∙ (ap reverse (tasks-remove es c.turned-entry.result)
    ∙ (remove_turned (tasks_of es) c.turned-entry.result c.in-Some.position turn
    ∙ (ap (λ ts. remove ts c.in-Some.position) c.self.view_is ∙ c.in-Some.ensures.removes)))
