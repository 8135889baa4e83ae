use Rattle.std.proofs.Common.{◌≡◌, ap, ◌∙◌, ◌||◌, is_some}
use Rattle.net_items.specs.Keyed.{at_key}
use Rattle.dirty_sets.specs.declared.readers.Reader.{Reader}
use Rattle.dirty_sets.specs.Bits.{is_marked}
use Rattle.dirty_sets.specs.Index.{TouchIndexValue}
use Rattle.dirty_sets.proofs.IndexLemmas.{some_reader}
use Rattle.dirty_sets.proofs.index.TouchIndex.mark_planned.Goals as goal

pub returns : goal.returns
returns c = λ x.
    let held = c.args.self.now in
    let same : c.as_slice.result.now ≡ held.readers = c.as_slice.ensures.value ∙ ap (λ (h : TouchIndexValue). h.readers) c.self.view_is in
    c.mark_all.ensures x
    ∙ (ap (λ rs. is_marked c.args.marks.now x || is_some (at_key (λ (r : Reader). r.dest) x rs)) same
    ∙ ap (λ b. is_marked c.args.marks.now x || b) (some_reader c.args.before.now held.readers held.room c.requires.index x))
