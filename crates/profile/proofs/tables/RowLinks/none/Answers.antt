use Rattle.profile.proofs.LinkLemmas.{links_none}
use Rattle.profile.proofs.tables.RowLinks.none.Goals as goal

pub returns : goal.returns
returns c = links_none
