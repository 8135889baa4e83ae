use Rattle.std.proofs.Common.{codes}
use Rattle.std.specs.Fmt.{decimal}
use Rattle.answers.proofs.ShownLemmas.{put_behind}
use Rattle.answers.proofs.shown_text.put_rest.Goals as goal

pub returns : goal.returns
returns c = put_behind _ (codes " prohibited ") (decimal c.args.counts.now.prohibited) _ _ _ c.in_ok-put_numbered.ensures c.in_ok-put_each_status.ensures
