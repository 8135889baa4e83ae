use Rattle.std.proofs.Common.{◌∙◌, ap, Some}
use Rattle.sessions.specs.declared.faults.Fault.TheVariants.{NoPlace}
use Rattle.sessions.proofs.InputLemmas.{after_none}
use Rattle.beside.specs.Beside.{CommandsBeside, LeavesBeside}
use Rattle.beside.proofs.reading.AfterScript.refuse.Goals as goal

pub returns : goal.returns
returns g c = λ start unread opening.
    let back = c.ended_unread.ensures.back in
    let end = c.ended_unread.ensures.end in
    rw (back.0, back.1) (after_none (g.L.Telling.tells c.args.self.telling.now) (CommandsBeside 1) (LeavesBeside 1) (Unit {0}) unread _ _ c.args.self.opening start NoPlace _ _ _ opening tt (ap (λ e. e.lines) end) (ap (λ e. e.fault) end ∙ ap Some c.requires) (ap (λ e. e.net) end))
