use Rattle.std.proofs.Common.{arith}
use Rattle.dirty_sets.specs.Entries.{task_of}
use Rattle.dirty_sets.proofs.WaitingPositionLemmas.{least_kept, least_taken}
use Rattle.dirty_sets.proofs.waiting.Waiting.first_out.Goals as goal

pub loop-position-preserved-then-is_out : goal.loop-position-preserved-then-is_out
loop-position-preserved-then-is_out c =
    let in_range = c.loop-position.invariant.in_range in
    record {
      found = least_taken c.args.self.now c.loop-position.position (task_of c.at-dest.result) c.loop-position.first c.loop-position-test.true c.at-dest.ensures c.loop-position.invariant.found c.lesser_of.result c.if-is_out.true c.lesser_of.ensures;
      in_range = omega arith;
    }

pub loop-position-preserved : goal.loop-position-preserved
loop-position-preserved c =
    let in_range = c.loop-position.invariant.in_range in
    record {
      found = least_kept c.args.self.now c.loop-position.position (task_of c.at-dest.result) c.loop-position.first c.loop-position-test.true c.at-dest.ensures c.loop-position.invariant.found c.if-is_out.false;
      in_range = omega arith;
    }
