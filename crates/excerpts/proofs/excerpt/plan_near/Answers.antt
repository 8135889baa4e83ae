use Rattle.std.proofs.Common.{◌∙◌, Some, ap, arith, sym}
use Rattle.std.proofs.lemmas.Bool.{eqb-true}
use Rattle.std.proofs.lemmas.List.{get_or_default}
use Rattle.net_items.specs.declared.items.Plan.{Plan}
use Rattle.net_items.proofs.KeyedLemmas.{found_here}
use Rattle.excerpts.proofs.excerpt.plan_near.Goals as goal

-- the plan that was looked at first is the destination's
pub returns-then-eq : goal.returns-then-eq
returns-then-eq c =
    let plan : Plan = c.at.result.now in
    let found = found_here (λ (p : Plan). p.dest) c.args.dest c.args.plans.now c.args.first c.requires (omega arith)
    (λ d. ap (λ (p : Plan). p.dest) (get_or_default c.args.plans.now c.args.first d plan (omega arith) ∙ sym c.at.ensures) ∙ eqb-true _ c.args.dest (sym c.eq.ensures ∙ c.if-eq.true)) in
    ap Some c.at-then-eq.ensures ∙ sym (found.finds c.at-then-eq.result.now)
