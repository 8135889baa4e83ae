use Rattle.std.proofs.Common.{List, ℕ, take, ap, subst, Ok}
use Rattle.net_text.specs.Reading.{Says}
use Rattle.desk_console.specs.Commands.{Commands}
use Rattle.sessions.proofs.InputLemmas.{ran_after, ran_unopened, ran_unloaded}
use Rattle.console.specs.InLine.{LeavesInLine, StartsInLine}
use Rattle.console.proofs.HeadlineLemmas.{ran_input_right}
use Rattle.console.proofs.input.run_input.Goals as goal

pub returns-in-Err-clause-ran : goal.returns-in-Err-clause-ran
returns-in-Err-clause-ran g c = ran_unopened StartsInLine (g.T.Telling.tells c.args.telling.now) Commands LeavesInLine ⊥ _ _ _ c.in-Err.fault _ _ _ c.in-Err.ensures c.ended_by.ensures.lines c.ended_by.ensures.fault c.ended_by.ensures.net

pub returns-in-Err-clause-right : goal.returns-in-Err-clause-right
returns-in-Err-clause-right g c = ran_input_right (g.T.Telling.tells c.args.telling.now) _ _ _ _ _ _ _ (returns-in-Err-clause-ran g c)

pub returns-in-Err-open_text-clause-ran : goal.returns-in-Err-open_text-clause-ran
returns-in-Err-open_text-clause-ran g c =
    let end = c.ended_by-in-Err-open_text.ensures in
    ran_unloaded StartsInLine (g.T.Telling.tells c.args.telling.now) Commands LeavesInLine ⊥ _ _ _ c.in-Ok.opening _ c.in-Err-open_text.fault _ _ _ c.in-Ok.ensures (ap (take c.in-Ok.opening.text) c.deref.ensures.value) c.in-Err-open_text.ensures
    end.lines end.fault end.net

pub returns-in-Err-open_text-clause-right : goal.returns-in-Err-open_text-clause-right
returns-in-Err-open_text-clause-right g c = ran_input_right (g.T.Telling.tells c.args.telling.now) _ _ _ _ _ _ _ (returns-in-Err-open_text-clause-ran g c)

pub returns-in-Ok-open_text-clause-ran : goal.returns-in-Ok-open_text-clause-ran
returns-in-Ok-open_text-clause-ran g c =
    let made = c.in-Ok-open_text.ensures in
    ran_after StartsInLine (g.T.Telling.tells c.args.telling.now) Commands LeavesInLine ⊥ _ made.0 _ _ _ _ _ _ _ _
    (subst (λ (text : List ℕ). Says text (Ok made.0)) (ap (take c.in-Ok.opening.text) c.deref.ensures.value) made.1)
    made.2
    (c.run.ensures (g.R.Read.remaining c.args.reader.now) c.in-Ok.ensures)

pub returns-in-Ok-open_text-clause-right : goal.returns-in-Ok-open_text-clause-right
returns-in-Ok-open_text-clause-right g c = ran_input_right (g.T.Telling.tells c.args.telling.now) _ _ _ _ _ _ _ (returns-in-Ok-open_text-clause-ran g c)
