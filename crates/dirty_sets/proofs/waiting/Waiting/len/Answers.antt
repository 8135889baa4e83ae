use Rattle.std.proofs.Common.{arith}
use Rattle.dirty_sets.specs.Entries.{task_of}
use Rattle.dirty_sets.proofs.WaitingPositionLemmas.{count_none, count_one}
use Rattle.dirty_sets.proofs.waiting.Waiting.len.Goals as goal
use Rattle.dirty_sets.proofs.waiting.Waiting.len.Goals.{then-not-is_out, else-not-is_out}

pub loop-position-preserved : goal.loop-position-preserved
loop-position-preserved c =
    let counted = c.loop-position.invariant.counted in
    let few = c.loop-position.invariant.few in
    elim c.if-not-is_out.branch [
      | then-not-is_out w ↦
          let more = count_one c.args.self.now c.loop-position.position (task_of c.at-is_out.result) c.at-is_out.ensures w.if-not-is_out.true in
          let now = w.count-is in
          record { counted = omega arith; few = omega arith }
      | else-not-is_out w ↦
          let same = count_none c.args.self.now c.loop-position.position (task_of c.at-is_out.result) c.at-is_out.ensures w.if-not-is_out.false in
          let now = w.count-is in
          record { counted = omega arith; few = omega arith }
    ]
