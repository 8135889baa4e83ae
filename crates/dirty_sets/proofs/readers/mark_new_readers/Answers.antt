use Rattle.std.proofs.Common.{ap, ◌∙◌, ◌&&◌, ◌||◌, eqb}
use Rattle.std.specs.List.{list_any}
use Rattle.std.proofs.lemmas.List.{take_all}
use Rattle.net_items.specs.declared.items.Plan.{Plan}
use Rattle.excerpts.specs.Excerpt.{is_read_by}
use Rattle.dirty_sets.specs.declared.readers.Reader.{Reader}
use Rattle.dirty_sets.specs.Bits.{is_marked}
use Rattle.dirty_sets.specs.Index.{would_read}
use Rattle.dirty_sets.proofs.ReaderLemmas.{at_once, mark-step, planned_test, tested}
use Rattle.dirty_sets.proofs.readers.mark_new_readers.Goals as goal

pub loop-reader-preserved : goal.loop-reader-preserved
loop-reader-preserved c = λ x.
    let one = c.reader-item.result in
    mark-step (λ (r : Reader). eqb r.dest x && would_read c.args.net.now c.args.set.now r.dest) c.args.readers.now c.loop-reader.reader-index one one c.loop-reader-test.true c.reader-item.is
    (is_marked c.args.marks.now x) (is_marked c.loop-reader.marks x) (is_marked c.mark_if.new.self x) (c.loop-reader.invariant x)
    (c.mark_if.ensures x ∙ ap (λ b. is_marked c.loop-reader.marks x || (eqb one.dest x && b)) c.would_read_set.ensures)

pub returns : goal.returns
returns c = λ x.
    c.loop-reader.invariant x
    ∙ ap (λ b. is_marked c.args.marks.now x || b)
    (ap (list_any (λ (r : Reader). eqb r.dest x && would_read c.args.net.now c.args.set.now r.dest)) (take_all c.loop-reader.reader-index c.args.readers.now c.loop-reader-test.false)
    ∙ at_once (λ (r : Reader). r.dest) (λ (r : Reader). would_read c.args.net.now c.args.set.now r.dest) x c.args.readers.now c.requires.rising
    ∙ (tested (would_read c.args.net.now c.args.set.now) x c.args.readers.now
    ∙ planned_test c.args.net.now.plans c.args.readers.now (λ (p : Plan). is_read_by c.args.net.now.points p c.args.set.now) x c.requires.planned))
