use Rattle.std.proofs.Common.{◌∙◌}
use Rattle.net_text.proofs.TableLemmas.{known_keys}
use Rattle.net_text.proofs.keys.has_only_keys.Goals as goal

pub returns : goal.returns
returns c = c.all_keys_known.ensures ∙ known_keys c.args.format c.args.table.now.entries
