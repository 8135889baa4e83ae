use Rattle.sessions.proofs.RunLemmas.{at_first}
use Rattle.sessions.proofs.runs.read_lines.Goals as goal

pub returns : goal.returns
returns g c =
    let made = c.new-session.ensures in
    c.read_to_end-fault.ensures c.args.start _ _ (at_first (g.T.Telling.tells c.args.telling.now) g.A.Answering.commands c.args.start _ _ c.new-session.result made.state made.line made.answers made.lines)
