use Rattle.std.proofs.Common.{arith, refl, length}
use Rattle.std.proofs.lemmas.Option.{slice_get_read, slice_get_within}
use Rattle.excerpts.proofs.TurnedLemmas.{put_more, put_all}
use Rattle.excerpts.proofs.turned.put_turned.Goals as goal

pub loop-set-init : goal.loop-set-init
loop-set-init c = record { kept = λ y z h. h; put = λ k s low. absurd (omega arith) }

pub loop-set-preserved : goal.loop-set-preserved
loop-set-preserved c = record {
  kept = λ y z h. c.in_ok-put_if_turned.ensures.kept y z (c.loop-set.invariant.kept y z h);
  put = put_more c.args.net.now.sets c.args.before.now.sets c.args.sets.now c.loop-set.list.items c.put_if_turned.new.list.items c.loop-set.set-index c.set-item.result
      (slice_get_read c.args.sets.now (length c.args.sets.now) c.loop-set.set-index c.set-item.result refl (omega arith) c.set-item.is)
      c.in_ok-put_if_turned.ensures.kept c.in_ok-put_if_turned.ensures.there c.in_ok-put_if_turned.ensures.back c.loop-set.invariant.put;
}

pub returns-clause-kept : goal.returns-clause-kept
returns-clause-kept c = c.loop-set.invariant.kept

pub returns-clause-put : goal.returns-clause-put
returns-clause-put c =
    put_all c.args.net.now.sets c.args.before.now.sets c.args.sets.now c.loop-set.list.items c.loop-set.set-index
    (λ k s at. omega (arith, slice_get_within c.args.sets.now k s at, c.loop-set-test.false)) c.loop-set.invariant.put
