use Rattle.std.proofs.Common.{Some, slice_get, option_map, ap, ◌∙◌, sym}
use Rattle.std.proofs.lemmas.Option.{slice_get-map}
use Rattle.dirty_sets.specs.Entries.{task_of, tasks_of}
use Rattle.dirty_sets.proofs.WaitingTurnLemmas.{get_turned, turn_of}
use Rattle.dirty_sets.proofs.waiting.Waiting.at.Goals as goal

pub returns : goal.returns
returns c =
    let es = c.self.inside.entries.entries in
    let entry = c.turned-entry.result in
    let place = c.args.position in
    ap (λ ts. slice_get ts place) (sym c.self.view_is)
    ∙ (get_turned (tasks_of es) entry place (turn_of es c.args.self.now entry place c.self.view_is c.turned-entry.ensures)
    ∙ (slice_get-map task_of es entry ∙ (ap (option_map task_of) (sym c.in-Some.ensures.entry) ∙ ap (λ n. Some (task_of (n, c.in-Some.is_out.now))) (sym c.in-Some-new.ensures.value))))
