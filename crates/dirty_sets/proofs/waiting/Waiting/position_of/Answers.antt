use Rattle.std.proofs.Common.{◌≡◌, false, MatchOption, eqb, ap, position, ◌∙◌, sym, subst}
use Rattle.std.specs.Map.{keys_of}
use Rattle.dirty_sets.specs.Waiting.{is_out}
use Rattle.dirty_sets.specs.Entries.{IsAt, tasks_of}
use Rattle.dirty_sets.proofs.WaitingEntryLemmas.{found_at, not_found}
use Rattle.dirty_sets.proofs.WaitingTurnLemmas.{at_turned, is_out_turned, turn_back}
use Rattle.dirty_sets.proofs.waiting.Waiting.position_of.Goals as goal

pub returns-in_err-entry : goal.returns-in_err-entry
returns-in_err-entry c =
    let es = c.self.inside.entries.entries in
    let dest = c.args.dest in
    let none = sym c.in_err-entry.was ∙ (c.get_index_of.ensures.index ∙ ap (λ n. position (eqb n) (keys_of es)) c.number.ensures.value) in
    let not_out = ap (λ ts. is_out ts dest) (sym c.self.view_is) ∙ (is_out_turned (tasks_of es) dest ∙ not_found dest es none) in
    subst (λ r. MatchOption r (is_out c.args.self.now dest ≡ false) (IsAt c.args.self.now dest)) (sym c.from_residual.ensures) not_out

pub returns : goal.returns
returns c =
    let es = c.self.inside.entries.entries in
    let dest = c.args.dest in
    let some = c.in_ok-entry.ensures.index ∙ ap (λ n. position (eqb n) (keys_of es)) c.number.ensures.value in
    let found = found_at dest es c.in_ok-entry.ensures.unique c.in_ok-entry.entry some in
    subst (λ ts. IsAt ts dest c.turned.result) c.self.view_is
    (at_turned (tasks_of es) dest c.in_ok-entry.entry c.turned.result (turn_back es c.args.self.now c.in_ok-entry.entry c.turned.result c.self.view_is c.turned.ensures) found)
