use Rattle.std.proofs.Common.{subst}
use Rattle.std.specs.Prelude.{IfOk}
use Rattle.script_words.specs.declared.commands.Command.TheVariants as command
use Rattle.beside.specs.Beside.{BesideValue, DoesBeside}
use Rattle.beside.proofs.answering.Beside.last.Goals as goal

pub returns-clause-does : goal.returns-clause-does
returns-clause-does g c =
    subst (λ (b : BesideValue). IfOk c.last.result (λ answer. DoesBeside g.N.Naming.seats (command.Last c.args.collector) b answer c.last.new.self)) c.self.view_is c.last.ensures.call
