use Rattle.std.proofs.Common.{arith, rules, ◌≤◌, ◌+◌, slice_index}
use Rattle.excerpts.proofs.FirstLemmas.{around, found_around, IsRising-range}
use Rattle.excerpts.proofs.joints.joints_among.Goals as goal

pub slice_bounds-result-count : goal.slice_bounds-result-count
slice_bounds-result-count c = (around c.args.list.now c.args.firsts.now c.args.point c.from-at.result (omega arith) c.requires.firsts (omega arith)).ordered

pub slice_bounds-result-start : goal.slice_bounds-result-start
slice_bounds-result-start c =
    let ordered : slice_index c.args.firsts.now c.from-at.result ≤ slice_index c.args.firsts.now (c.from-at.result + 1)
    = (around c.args.list.now c.args.firsts.now c.args.point c.from-at.result (omega arith) c.requires.firsts (omega arith)).ordered in
    search (rules, ordered)

pub returns-clause-rise : goal.returns-clause-rise
returns-clause-rise c = IsRising-range (slice_index c.args.firsts.now c.from-at.result) (slice_index c.args.firsts.now (c.from-at.result + 1)) c.args.list.now c.requires.rise

pub returns-clause-tells : goal.returns-clause-tells
returns-clause-tells c = λ z small.
    found_around c.args.list.now c.args.point z _ _ small (around c.args.list.now c.args.firsts.now c.args.point c.from-at.result (omega arith) c.requires.firsts (omega arith))
