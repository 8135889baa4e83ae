use Rattle.std.proofs.Common.{subst}
use Rattle.std.specs.Prelude.{IfOk}
use Rattle.script_words.specs.declared.commands.Command.TheVariants as command
use Rattle.beside.specs.Beside.{BesideValue, DoesBeside}
use Rattle.beside.proofs.answering.Beside.save.Goals as goal

pub returns-clause-does : goal.returns-clause-does
returns-clause-does g c =
    subst (λ (b : BesideValue). IfOk c.save.result (λ answer. DoesBeside g.N.Naming.seats (command.Save c.args.file.now) b answer c.save.new.self)) c.self.view_is c.save.ensures.call
