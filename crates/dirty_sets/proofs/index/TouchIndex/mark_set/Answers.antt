use Rattle.std.proofs.Common.{◌≡◌, ap, sym, ◌∙◌, ◌||◌}
use Rattle.dirty_sets.specs.Bits.{is_marked}
use Rattle.dirty_sets.specs.Index.{TouchIndexValue, reads_among}
use Rattle.dirty_sets.proofs.IndexLemmas.{small_id, touches-set}
use Rattle.dirty_sets.proofs.index.TouchIndex.mark_set.Goals as goal

pub mark_readers-requires-clause-small : goal.mark_readers-requires-clause-small
mark_readers-requires-clause-small c = small_id c.args.before.now c.validity.ensures c.args.id c.args.event.now c.requires.accepted c.requires.on_set

pub returns : goal.returns
returns c = λ x.
    let net = c.args.before.now in
    let held = c.args.self.now in
    let small = small_id net c.validity.ensures c.args.id c.args.event.now c.requires.accepted c.requires.on_set in
    let same : c.as_slice.result.now ≡ held.readers = c.as_slice.ensures.value ∙ ap (λ (h : TouchIndexValue). h.readers) c.self.view_is in
    c.mark_readers.ensures x
    ∙ (ap (λ rs. is_marked c.args.marks.now x || reads_among rs x c.args.id) same
    ∙ ap (λ b. is_marked c.args.marks.now x || b) (c.requires.index.reads x c.args.id small ∙ sym (touches-set net c.validity.ensures c.args.id c.args.event.now c.requires.on_set x)))
