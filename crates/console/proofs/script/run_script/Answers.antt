use Rattle.desk_console.specs.Commands.{Commands}
use Rattle.desk_console.specs.Console.{opening}
use Rattle.console.specs.InLine.{LeavesInLine}
use Rattle.console.proofs.HeadlineLemmas.{ran_right, ran_same}
use Rattle.sessions.specs.declared.faults.Fault.TheVariants.{OutOfMemory}
use Rattle.sessions.proofs.RunLemmas.{ran_nothing}
use Rattle.console.proofs.script.run_script.Goals as goal

pub returns-in-Ok-clause-ran : goal.returns-in-Ok-clause-ran
returns-in-Ok-clause-ran g c = ran_same (g.T.Telling.tells c.args.telling.now) _ _ _ _ _ _ _ _ _ c.in-Ok.ensures c.run_lines.ensures

pub returns-in-Ok-clause-right : goal.returns-in-Ok-clause-right
returns-in-Ok-clause-right g c = ran_right (g.T.Telling.tells c.args.telling.now) c.args.net _ _ _ _ _ _ _ (returns-in-Ok-clause-ran g c)

pub returns-in-Err-clause-ran : goal.returns-in-Err-clause-ran
returns-in-Err-clause-ran g c =
    let end = c.ended_by.ensures in
    ran_nothing (g.T.Telling.tells c.args.telling.now) Commands LeavesInLine ⊥ (opening c.args.net) _ _ OutOfMemory _ _ _ tt end.lines end.fault end.net

pub returns-in-Err-clause-right : goal.returns-in-Err-clause-right
returns-in-Err-clause-right g c = ran_right (g.T.Telling.tells c.args.telling.now) c.args.net _ _ _ _ _ _ _ (returns-in-Err-clause-ran g c)
