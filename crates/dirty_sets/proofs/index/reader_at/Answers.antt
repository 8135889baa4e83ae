use Rattle.std.proofs.Common.{ap, sym, subst, ◌∙◌, get_or, List}
use Rattle.std.proofs.lemmas.List.Elements.{All-from_recursion}
use Rattle.net_items.specs.declared.items.Plan.{Plan}
use Rattle.net_items.specs.declared.items.Point.{Point}
use Rattle.net_data.specs.Valid.{IsRightPlan}
use Rattle.dirty_sets.specs.Index.{LeadsOn}
use Rattle.dirty_sets.proofs.ReadingLemmas.{leads_on}
use Rattle.dirty_sets.proofs.index.reader_at.Goals as goal

pub sets_read-requires-clause-leads : goal.sets_read-requires-clause-leads
sets_read-requires-clause-leads c =
    let net = c.args.net.now in
    let plan = c.at-plan.result.now in
    let right : IsRightPlan net.points net.sets plan =
    subst (IsRightPlan net.points net.sets) (sym (c.at-plan.ensures ∙ ap (λ (ps : List Plan). get_or ps c.args.position plan) c.plans.ensures))
    (All-from_recursion (IsRightPlan net.points net.sets) net.plans c.validity.ensures.plans_right c.args.position plan c.requires.there) in
    subst (λ (ps : List Point). LeadsOn ps plan) (sym c.points.ensures) (leads_on net c.validity.ensures plan right)
