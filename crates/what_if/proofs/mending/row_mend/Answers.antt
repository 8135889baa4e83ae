use Rattle.excerpts.specs.Excerpt.{source_of}
use Rattle.what_if.proofs.MendingLemmas.{vias_known}
use Rattle.what_if.proofs.mending.row_mend.Goals as goal

pub over_vias-requires-clause-known : goal.over_vias-requires-clause-known
over_vias-requires-clause-known c = vias_known (source_of c.args.excerpt.now) c.validity.ensures.valid c.args.mends.now.wanted c.args.mends.now.list.items c.args.row.now c.requires.row c.requires.known
