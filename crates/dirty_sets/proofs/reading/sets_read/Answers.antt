use Rattle.std.proofs.Common.{ap, sym, ◌∙◌, eqb, cond}
use Rattle.excerpts.specs.Excerpt.{is_read_by}
use Rattle.dirty_sets.specs.Bits.{is_marked}
use Rattle.dirty_sets.proofs.ReaderLemmas.{one_more_set}
use Rattle.dirty_sets.proofs.reading.sets_read.Goals as goal

pub loop-set-preserved : goal.loop-set-preserved
loop-set-preserved c = λ n.
    let p = is_read_by c.args.points.now c.args.plan.now in
    let i = c.loop-set.set-index in
    let one = c.set-item.result in
    c.put.ensures n
    ∙ (ap (λ b. cond (eqb n one.id) b (is_marked c.loop-set.ids n)) c.is_read_by_plan-reads.ensures
    ∙ (ap (λ b. cond (eqb n one.id) (p one) b) (c.loop-set.invariant n)
    ∙ sym (one_more_set p c.args.sets.now i one one n c.requires.sets_rise c.loop-set-test.true c.set-item.is)))
