use Rattle.std.proofs.Common.{◌≡◌, length, arith}
use Rattle.dirty_sets.specs.Entries.{task_of}
use Rattle.dirty_sets.proofs.WaitingPositionLemmas.{first_is, none_waits_before, out_more}
use Rattle.dirty_sets.proofs.waiting.Waiting.first_position.Goals as goal

pub loop-position-preserved : goal.loop-position-preserved
loop-position-preserved c = out_more c.args.self.now c.loop-position.position (task_of c.at-dest.result) c.loop-position.invariant c.at-dest.ensures c.if-not-is_out.false

pub returns-then-not-is_out : goal.returns-then-not-is_out
returns-then-not-is_out c = first_is c.args.self.now c.loop-position.position (task_of c.at-dest.result) c.loop-position.invariant c.at-dest.ensures c.if-not-is_out.true

pub returns : goal.returns
returns c =
    let before = c.loop-position.auto.position-end in
    let past = c.loop-position-test.false in
    let all = c.left-position-end.ensures in
    let end : c.loop-position.position ≡ length c.args.self.now = omega arith in
    none_waits_before c.args.self.now c.loop-position.position end c.loop-position.invariant
