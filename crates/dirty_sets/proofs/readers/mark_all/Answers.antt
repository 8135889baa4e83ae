use Rattle.std.proofs.Common.{ap, sym, ◌∙◌, ◌||◌, eqb}
use Rattle.std.specs.List.{list_any}
use Rattle.std.proofs.lemmas.List.{take_all}
use Rattle.dirty_sets.specs.declared.readers.Reader.{Reader}
use Rattle.dirty_sets.specs.Bits.{is_marked}
use Rattle.dirty_sets.proofs.ReaderLemmas.{some_any, mark-step}
use Rattle.dirty_sets.proofs.readers.mark_all.Goals as goal

pub loop-reader-preserved : goal.loop-reader-preserved
loop-reader-preserved c = λ x.
    let one = c.reader-item.result in
    mark-step (λ (r : Reader). eqb r.dest x) c.args.readers.now c.loop-reader.reader-index one one c.loop-reader-test.true c.reader-item.is
    (is_marked c.args.marks.now x) (is_marked c.loop-reader.marks x) (is_marked c.mark.new.self x) (c.loop-reader.invariant x) (c.mark.ensures x)

pub returns : goal.returns
returns c = λ x.
    c.loop-reader.invariant x
    ∙ ap (λ b. is_marked c.args.marks.now x || b)
    (ap (list_any (λ (r : Reader). eqb r.dest x)) (take_all c.loop-reader.reader-index c.args.readers.now c.loop-reader-test.false)
    ∙ sym (some_any (λ (r : Reader). r.dest) x c.args.readers.now))
