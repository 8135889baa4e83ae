use Rattle.std.proofs.Common.{arith, refl, length}
use Rattle.std.proofs.lemmas.Option.{slice_get_read}
use Rattle.excerpts.specs.Turned.{IsTold}
use Rattle.transfer_state.proofs.FollowLemmas.{all_in_place, put_for_more, put_for_all}
use Rattle.transfer_state.proofs.following.mark_turned.Goals as goal

pub loop-ends-init : goal.loop-ends-init
loop-ends-init c = record { within = c.requires.marks; put = λ k e low. absurd (omega arith) }

pub mark_ends-requires-clause-marks : goal.mark_ends-requires-clause-marks
mark_ends-requires-clause-marks c = c.loop-ends.invariant.within

pub mark_ends-requires-clause-told : goal.mark_ends-requires-clause-told
mark_ends-requires-clause-told c =
    all_in_place (IsTold c.args.e.now.network.points) c.args.turned.now c.loop-ends.ends-index c.ends-item.result c.requires.told
    (slice_get_read c.args.turned.now (length c.args.turned.now) c.loop-ends.ends-index c.ends-item.result refl (omega arith) c.ends-item.is)

pub loop-ends-preserved : goal.loop-ends-preserved
loop-ends-preserved c = record {
  within = c.in_ok-mark_ends.ensures.within;
  put = put_for_more c.args.e.now c.loop-ends.marks.items c.mark_ends.new.marks.items c.args.turned.now c.loop-ends.ends-index c.ends-item.result
      (slice_get_read c.args.turned.now (length c.args.turned.now) c.loop-ends.ends-index c.ends-item.result refl (omega arith) c.ends-item.is)
      c.in_ok-mark_ends.ensures.kept c.in_ok-mark_ends.ensures.marked c.loop-ends.invariant.put;
}

pub returns-clause-within : goal.returns-clause-within
returns-clause-within c = c.loop-ends.invariant.within

pub returns-clause-marked : goal.returns-clause-marked
returns-clause-marked c = put_for_all c.args.e.now c.loop-ends.marks.items c.args.turned.now c.loop-ends.ends-index (omega (arith, c.loop-ends-test.false)) c.loop-ends.invariant.put
