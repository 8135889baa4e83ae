use Rattle.sessions.proofs.RunLemmas.{at_first}
use Rattle.sessions.proofs.runs.run_lines.Goals as goal

pub returns : goal.returns
returns g c =
    let made = c.new.ensures in
    c.read_on.ensures c.args.start _ _ (at_first (g.T.Telling.tells c.args.telling.now) g.A.Answering.commands c.args.start _ _ c.new.result made.state made.line made.answers made.lines)
