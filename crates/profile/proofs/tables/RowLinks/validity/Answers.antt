use Rattle.std.proofs.Common.{◌∙◌, ap, sym, Option, length}
use Rattle.profile.specs.declared.tables.LinkRef.{LinkRef}
use Rattle.profile.proofs.LinkLemmas.{length-links_at}
use Rattle.profile.proofs.tables.RowLinks.validity.Goals as goal

pub returns : goal.returns
returns c = ap (length {A = Option LinkRef}) (sym c.self.view_is) ∙ length-links_at c.self.inside.size c.self.inside.used c.self.inside.sets
