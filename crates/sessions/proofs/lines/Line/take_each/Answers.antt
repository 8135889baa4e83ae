use Rattle.std.proofs.Common.{◌++◌, subst}
use Rattle.std.proofs.lemmas.List.{take_all}
use Rattle.sessions.specs.Run.{IsLine}
use Rattle.sessions.proofs.LineLemmas.{pushed}
use Rattle.sessions.proofs.lines.Line.take_each.Goals as goal

pub loop-byte-preserved : goal.loop-byte-preserved
loop-byte-preserved c = λ rest at.
    subst (IsLine c.take.new.self) (pushed rest c.args.bytes.now c.loop-byte.byte-index c.loop-byte-test.true)
    (c.in_ok-take.ensures _ (c.loop-byte.invariant rest at))

pub returns : goal.returns
returns c = λ rest at.
    subst (λ t. IsLine c.loop-byte.self (rest ++ t)) (take_all c.loop-byte.byte-index c.args.bytes.now c.loop-byte-test.false) (c.loop-byte.invariant rest at)
