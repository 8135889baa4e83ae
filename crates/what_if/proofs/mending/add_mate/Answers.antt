use Rattle.std.proofs.Common.{sym}
use Rattle.excerpts.specs.Excerpt.{source_of}
use Rattle.what_if.proofs.MendingLemmas.{mate_known}
use Rattle.what_if.proofs.mending.add_mate.Goals as goal

pub over_vias-requires-clause-known : goal.over_vias-requires-clause-known
over_vias-requires-clause-known c = mate_known (source_of c.args.excerpt.now) c.validity.ensures.valid c.args.mends.now.wanted c.args.mends.now.list.items c.args.row.now c.in-Some.mate.now c.requires.row c.requires.known (sym c.in-Some.ensures)
