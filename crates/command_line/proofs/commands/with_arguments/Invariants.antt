use Rattle.std.proofs.Common.{◌≡◌, false, fold, map, length}
use Rattle.clap.specs.declared.builder.command.Command.TheViews.{out-Command}
use Rattle.clap.specs.Words.{app_of, with_rule}
use Rattle.command_line.specs.Words.{rule_by}
use Rattle.command_line.proofs.commands.with_arguments.Given as goal

-- with the arguments that are left it is the command with all of them
abbrev pub invariant-loop-first : goal.invariant-loop-first
invariant-loop-first l =
    (fold with_rule (app_of l.command) (map rule_by l.rest) ≡ fold with_rule (app_of l.fn.bare) (map rule_by l.fn.arguments))
    × ((out-Command l.command).has_globals ≡ false)

abbrev pub decreases-loop-first : goal.decreases-loop-first
decreases-loop-first l = length l.rest
