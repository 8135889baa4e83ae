use Rattle.std.proofs.Common.{rules, ◌∙◌, ap, sym, Option, length, arith}
use Rattle.profile.specs.declared.tables.LinkRef.{LinkRef}
use Rattle.profile.proofs.LinkLemmas.{length-links_at, same_links}
use Rattle.profile.proofs.tables.RowLinks.equals.Goals as goal

pub returns : goal.returns
returns c = (
  λ t. same_links c.args.self.now c.args.other.now
      (ap (length {A = Option LinkRef}) (sym c.self.view_is) ∙ length-links_at c.self.inside.size c.self.inside.used c.self.inside.sets)
      (ap (length {A = Option LinkRef}) (sym c.other.view_is) ∙ length-links_at c.other.inside.size c.other.inside.used c.other.inside.sets)
      (λ k low. c.loop-s.invariant k (omega (arith, low, c.loop-s-test.false))),
  λ e. search rules,
)
