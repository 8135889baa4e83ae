use Rattle.std.proofs.Common.{map, Err, ap, ◌∙◌}
use Rattle.clap.specs.Words.{subcommand_rows_of}
use Rattle.command_line.proofs.SubcommandLemmas.{missing_subcommand}
use Rattle.command_line.proofs.words.read_words.Goals as goal

pub returns-in-Err-NotWhole-clause-fault : goal.returns-in-Err-NotWhole-clause-fault
returns-in-Err-NotWhole-clause-fault c =
    let words = map (λ w. w.now) c.args.words.now in
    let not_whole = c.order_of.ensures.not_whole (c.in-Err-NotWhole.is ∙ ap Err c.in-Err-NotWhole.field-0-is) in
    missing_subcommand words (subcommand_rows_of c.in-Ok.matches) c.missing.result c.in-Ok.ensures.kinds c.in-Ok.ensures.rows not_whole c.missing.ensures
