use Rattle.std.proofs.Common.{rules, ℕ, ◌∙◌, Option, sym, ap, length, arith, below_more}
use Rattle.std.proofs.lemmas.Bool.{not-false}
use Rattle.sls_share.specs.Carried.{codes_in, codes_for}
use Rattle.sls_share.proofs.CarriedLemmas.{length-codes_for, same_option, same_answers}
use Rattle.sls_share.proofs.carried.Carried.equals.Goals as goal

pub returns-then-self-other-2 : goal.returns-then-self-other-2
returns-then-self-other-2 c = (
  λ t.
      sym c.self.view_is
      ∙ ap (λ codes. codes_for (codes_in codes) c.self.inside.available) c.if-self-other.true
      ∙ ap (codes_for (codes_in c.other.inside.codes)) c.if-self-other-2.true
      ∙ c.other.view_is,
  λ e. search rules,
)

pub loop-t-preserved : goal.loop-t-preserved
loop-t-preserved c = below_more _ _ c.loop-t.invariant
    (sym c.link_for.ensures ∙ same_option _ _ (not-false _ (sym c.ne.ensures ∙ c.if-ne.false)) ∙ c.link_for-in-loop-t.ensures)

pub returns : goal.returns
returns c = (
  λ t. same_answers c.args.self.now c.args.other.now
      (ap (length {A = Option ℕ}) (sym c.self.view_is) ∙ length-codes_for (codes_in c.self.inside.codes) c.self.inside.available)
      (ap (length {A = Option ℕ}) (sym c.other.view_is) ∙ length-codes_for (codes_in c.other.inside.codes) c.other.inside.available)
      (λ k low. c.loop-t.invariant k (omega arith)),
  λ e. search rules,
)
