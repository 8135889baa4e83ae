use Rattle.std.proofs.Common.{◌≡◌, fold, map, length}
use Rattle.clap.specs.Words.{app_of}
use Rattle.command_line.specs.Words.{app_by, desk_app, with_app}
use Rattle.command_line.proofs.commands.desk_command.Given as goal

-- with the subcommands that are left it is the whole command
abbrev pub invariant-loop-first : goal.invariant-loop-first
invariant-loop-first l = fold with_app (app_of l.command) (map app_by l.rest) ≡ desk_app

abbrev pub decreases-loop-first : goal.decreases-loop-first
decreases-loop-first l = length l.rest
