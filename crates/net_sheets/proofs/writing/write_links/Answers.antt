use Rattle.tokens.specs.Marked.{marked_text}
use Rattle.tokens.specs.declared.marked.Format.TheVariants.{Two}
use Rattle.net_sheets.proofs.WritingLemmas.{tails_made}
use Rattle.net_sheets.proofs.writing.write_links.Goals as goal

pub returns-in_ok-put_links-in-len1-up : goal.returns-in_ok-put_links-in-len1-up
returns-in_ok-put_links-in-len1-up c =
    tails_made 32 (marked_text Two) c.args.links.now _ _ _ c.in-len1-up.len_at_least c.in_ok-text-in-len1-up.ensures c.in_ok-put_links-in-len1-up.ensures
