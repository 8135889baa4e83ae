use Rattle.tokens.specs.Rows.{vias_text}
use Rattle.tokens.proofs.JoinLemmas.{tails_made}
use Rattle.tokens.proofs.entries.write_classes.Goals as goal

pub returns-in_ok-put_classes-in-len1-up : goal.returns-in_ok-put_classes-in-len1-up
returns-in_ok-put_classes-in-len1-up c =
    tails_made 47 vias_text c.args.classes.now c.class-item.result _ _ c.in-len1-up.len_at_least c.class-item.is c.in_ok-text-in-len1-up.ensures c.in_ok-put_classes-in-len1-up.ensures
