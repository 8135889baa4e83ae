use Rattle.std.proofs.Common.{arith, refl, length}
use Rattle.std.proofs.lemmas.Option.{slice_get_read, slice_get_within}
use Rattle.excerpts.proofs.IntactLemmas.{noted_more, all_noted}
use Rattle.excerpts.proofs.intact.entries_of.Goals as goal

pub loop-set-preserved : goal.loop-set-preserved
loop-set-preserved c = record {
  long = c.note_set.ensures.long;
  noted = noted_more c.args.sets.now c.loop-set.entries.items c.note_set.new.entries.items c.loop-set.set-index c.set-item.result
      (slice_get_read c.args.sets.now (length c.args.sets.now) c.loop-set.set-index c.set-item.result refl (omega arith) c.set-item.is)
      c.note_set.ensures.kept c.note_set.ensures.first c.note_set.ensures.second c.loop-set.invariant.noted;
}

pub returns-clause-told : goal.returns-clause-told
returns-clause-told c =
    all_noted c.args.sets.now c.loop-set.entries.items c.loop-set.set-index
    (λ k s at. omega (arith, slice_get_within c.args.sets.now k s at, c.loop-set-test.false)) c.loop-set.invariant.noted
