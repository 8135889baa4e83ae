use Rattle.std.proofs.Common.{subst, ℕ, take}
use Rattle.sessions.specs.Input.{RanAfter}
use Rattle.beside.specs.Beside.{CommandsBeside, LeavesBeside}
use Rattle.beside.proofs.reading.AfterScript.read.Goals as goal

pub returns : goal.returns
returns g c = λ unread opening.
    let end = c.run-end.result in
    subst (λ (n : ℕ). RanAfter (g.L.Telling.tells c.args.self.telling.now) (CommandsBeside n) (LeavesBeside n) (Unit {0}) (take c.args.self.opening.text c.args.self.opening.bytes.items) c.args.beside unread (g.R.Read.remaining c.run-end.new.reader)
    (g.W.Write.contents c.args.writer) (g.W.Write.contents c.run-end.new.writer) end.fault end.lines end.net) c.requires.one (c.run-end.ensures unread opening)
