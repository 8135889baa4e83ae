use Rattle.std.proofs.Common.{sym, ap, ◌∙◌, ◌++◌}
use Rattle.sessions.specs.Quitting.{through}
use Rattle.sessions.proofs.ScanLemmas.{idle_goes_on, lacks_q}
use Rattle.sessions.proofs.quitting.find_quit.Goals as goal

pub returns-in-None : goal.returns-in-None
returns-in-None c more =
    idle_goes_on c.args.start c.args.bytes.now more (sym c.is_idle.ensures ∙ c.if-is_idle.true) (lacks_q c.args.bytes.now c.in-None.ensures)
    ∙ ap (λ p. c.args.bytes.now ++ through p more) (sym c.after_text.ensures)
