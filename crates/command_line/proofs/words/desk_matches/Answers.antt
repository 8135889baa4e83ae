use Rattle.std.proofs.Common.{◌≡◌, true, map, refl, subst, List, Result, Ok, Err, IfOk}
use Rattle.clap.specs.Words.{App, Text, HasMatchesOf, FailsBy, fault_of, subcommand_of, subcommand_rows_of, is_simple, is_simple_and_free}
use Rattle.clap.specs.declared.error.Error.{Error}
use Rattle.clap.specs.declared.parser.matches.ArgMatches.{ArgMatches}
use Rattle.command_line.specs.Words.{desk_app}
use Rattle.command_line.proofs.words.desk_matches.Goals as goal

-- of the matches of a simple command, those of its subcommand
only_rows : (r : Result ArgMatches Error) (a : App) (words : List Text) → is_simple a ≡ true → IfOk r (HasMatchesOf a words)
    → IfOk r (λ m. subcommand_rows_of m ≡ subcommand_of a words)
only_rows (Ok m) a words simple h = (h simple).1
only_rows (Err e) a words simple h = tt

pub returns-clause-rows : goal.returns-clause-rows
returns-clause-rows c =
    let words = map (λ w. w.now) c.args.words.now in
    only_rows c.try_get_matches_from.result desk_app words refl
    (subst (λ (a : App). IfOk c.try_get_matches_from.result (HasMatchesOf a words)) c.in-Ok.ensures.app c.try_get_matches_from.ensures.matches)

pub returns-clause-kinds : goal.returns-clause-kinds
returns-clause-kinds c =
    subst (λ (a : App). is_simple_and_free a ≡ true → FailsBy (fault_of a (map (λ w. w.now) c.args.words.now)) c.try_get_matches_from.result)
    c.in-Ok.ensures.app c.try_get_matches_from.ensures.kinds refl
