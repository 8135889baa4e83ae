use Rattle.std.proofs.Common.{◌<◌, ℕ, Bool, reverse, ap, ◌∙◌, sym, subst}
use Rattle.std.specs.List.{AllByRecursion}
use Rattle.indexmap.specs.IndexMap.{move_index}
use Rattle.dirty_sets.specs.Entries.{tasks_of}
use Rattle.dirty_sets.proofs.WaitingEntryLemmas.{tasks-move_index, All-move_index}
use Rattle.dirty_sets.proofs.WaitingTurnLemmas.{move_turned, turn_of}
use Rattle.dirty_sets.proofs.waiting.Waiting.move_to.Goals as goal

pub invariant_of-self : goal.invariant_of-self
invariant_of-self c =
    subst (AllByRecursion (λ (e : ℕ × Bool). e.0 < 16384)) (sym c.move_index.ensures.entries) (All-move_index (λ (e : ℕ × Bool). e.0 < 16384) c.self.inside.entries.entries c.turned-first.result c.turned-last.result c.self.invariant)

pub returns : goal.returns
returns c =
    let es = c.self.inside.entries.entries in
    let first = turn_of es c.args.self.now c.turned-first.result c.args.from c.self.view_is c.turned-first.ensures in
    let last = turn_of es c.args.self.now c.turned-last.result c.args.to c.self.view_is c.turned-last.ensures in
    ap (λ fs. reverse (tasks_of fs)) c.move_index.ensures.entries
    ∙ (ap reverse (tasks-move_index es c.turned-first.result c.turned-last.result)
    ∙ (move_turned (tasks_of es) c.turned-first.result c.turned-last.result c.args.from c.args.to first last ∙ ap (λ ts. move_index ts c.args.from c.args.to) c.self.view_is))
