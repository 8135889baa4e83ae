use Rattle.dirty_sets.specs.Index.{reads_of}
use Rattle.dirty_sets.proofs.IndexLemmas.{kept}
use Rattle.dirty_sets.proofs.index.TouchIndex.keep.Goals as goal

pub returns : goal.returns
returns c = kept c.args.before.now (reads_of c.args.self.now) c.requires.index c.validity.ensures c.args.event.now c.requires.accepted c.requires.kept
