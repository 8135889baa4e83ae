use Rattle.std.proofs.Common.{◌∙◌, sym, arith}
use Rattle.std.proofs.lemmas.Nat.Bits.{shr_and_one}
use Rattle.sls_share.proofs.CarriedLemmas.{position_at, position_nowhere}
use Rattle.sls_share.proofs.share.masked_position.Goals as goal

pub returns-then-available-i-eq1-clause-position : goal.returns-then-available-i-eq1-clause-position
returns-then-available-i-eq1-clause-position c =
    position_at c.args.available c.args.n c.args.t c.loop-j.j c.probe-i.result c.loop-j.invariant c.loop-j-test.true c.probe-i.ensures.value
    (sym (shr_and_one c.args.available c.probe-i.result) ∙ c.if-available-i-eq1.true)

pub returns-clause-position : goal.returns-clause-position
returns-clause-position c = position_nowhere c.args.available c.args.n c.args.t (λ k low. c.loop-j.invariant k (omega (arith, low, c.loop-j-test.false)))
