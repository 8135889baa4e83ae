use Rattle.std.proofs.Common.{◌≡◌, List, Some, sym, ◌∙◌, ap}
use Rattle.net_items.specs.declared.items.Plan.{Plan}
use Rattle.net_items.specs.Lookups.{plan_at}
use Rattle.net_data.specs.Network.{Network}
use Rattle.excerpts.proofs.ExcerptLemmas.{extract_right}
use Rattle.excerpts.proofs.excerpt.Excerpt.of.Goals as goal

pub by-requires : goal.by-requires
by-requires c =
    let net : Network = c.args.net.now in
    let plan : Plan = c.in_ok-plan.plan.now in
    let same : net.plans ≡ c.plans-plans.result.now = sym (c.plans-plans.ensures ∙ ap (λ (n : Network). n.plans) c.net.ensures) in
    extract_right net c.validity.ensures c.args.dest plan (ap (λ (plans : List Plan). plan_at plans c.args.dest) same ∙ sym c.in_ok-plan.ensures)
