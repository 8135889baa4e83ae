use Rattle.std.proofs.Common.{◌+◌, ◌≤◌, ◌∙◌, sym, ap, arith, subst}
use Rattle.std.proofs.lemmas.Nat.Bits.{shr_and_one}
use Rattle.sls_share.proofs.CarriedLemmas.{code_there, code_past, passed_one, passed_none}
use Rattle.sls_share.proofs.carried.code_at.Goals as goal
use Rattle.sls_share.proofs.carried.code_at.Goals.{then-codes-code-eq1+else-before-position, else-codes-code-eq1}

pub returns-then-before-position : goal.returns-then-before-position
returns-then-before-position c =
    code_there c.args.codes c.loop-code.code c.args.position c.loop-code-test.true (sym (shr_and_one c.args.codes c.loop-code.code) ∙ c.if-codes-code-eq1.true)
    (sym c.if-before-position.true ∙ c.loop-code.invariant.passed)

pub loop-code-preserved : goal.loop-code-preserved
loop-code-preserved c = elim c.if-codes-code-eq1.branch [
  | then-codes-code-eq1+else-before-position w ↦ record {
    passed = w.before-is ∙ ap (λ n. n + 1) c.loop-code.invariant.passed ∙ passed_one c.args.codes c.loop-code.code (sym (shr_and_one c.args.codes c.loop-code.code) ∙ w.if-codes-code-eq1.true);
    early = omega (arith, w.before-is, c.loop-code.invariant.early, w.if-before-position.false);
  }
  | else-codes-code-eq1 w ↦ record {
    passed = w.before-is ∙ c.loop-code.invariant.passed ∙ passed_none c.args.codes c.loop-code.code (λ up. w.if-codes-code-eq1.false (shr_and_one c.args.codes c.loop-code.code ∙ up));
    early = subst (λ n. n ≤ c.args.position) (sym w.before-is) c.loop-code.invariant.early;
  }
]

pub returns : goal.returns
returns c = code_past c.args.codes c.loop-code.code c.args.position (omega arith) (subst (λ n. n ≤ c.args.position) c.loop-code.invariant.passed c.loop-code.invariant.early)
