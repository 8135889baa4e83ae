use Rattle.std.proofs.Common.{subst, ℕ}
use Rattle.sessions.specs.Run.{Ran}
use Rattle.beside.specs.Beside.{CommandsBeside, LeavesBeside}
use Rattle.beside.proofs.reading.WholeScript.read.Goals as goal

pub returns : goal.returns
returns g c =
    let end = c.run_lines-end.result in
    subst (λ (n : ℕ). Ran (g.L.Telling.tells c.args.self.telling.now) (CommandsBeside n) (LeavesBeside n) (Unit {0}) c.args.beside (g.R.Read.remaining c.args.reader) (g.R.Read.remaining c.run_lines-end.new.reader)
    (g.W.Write.contents c.args.writer) (g.W.Write.contents c.run_lines-end.new.writer) end.fault end.lines end.net) c.requires.one c.run_lines-end.ensures
