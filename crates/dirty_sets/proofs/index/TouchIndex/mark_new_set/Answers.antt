use Rattle.std.proofs.Common.{ap, sym, ◌∙◌, ◌||◌}
use Rattle.dirty_sets.specs.Bits.{is_marked}
use Rattle.dirty_sets.specs.Index.{would_read}
use Rattle.dirty_sets.proofs.IndexLemmas.{touches-AddSet}
use Rattle.dirty_sets.proofs.index.TouchIndex.mark_new_set.Goals as goal

pub returns : goal.returns
returns c = λ x.
    let net = c.args.before.now in
    c.mark_new_readers.ensures x
    ∙ (ap (λ s. is_marked c.args.marks.now x || would_read net s x) c.bare_set-set.ensures
    ∙ ap (λ b. is_marked c.args.marks.now x || b) (sym (touches-AddSet net c.args.id c.args.a c.args.b c.args.slcs.now c.requires.accepted x)))
