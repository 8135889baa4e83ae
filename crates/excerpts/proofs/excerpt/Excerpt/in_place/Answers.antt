use Rattle.std.proofs.Common.{◌≡◌, List, Some, sym, ◌∙◌, ap, subst, get_or}
use Rattle.std.proofs.lemmas.List.{get_or_default}
use Rattle.net_items.specs.declared.items.Plan.{Plan}
use Rattle.net_items.specs.Lookups.{plan_at}
use Rattle.net_data.specs.Network.{Network}
use Rattle.excerpts.specs.Excerpt.{excerpt_in}
use Rattle.excerpts.proofs.ExcerptLemmas.{extract_right}
use Rattle.excerpts.proofs.PlaceLemmas.{found_in_place}
use Rattle.excerpts.proofs.excerpt.Excerpt.in_place.Goals as goal

pub by-requires : goal.by-requires
by-requires c =
    let net : Network = c.args.net.now in
    let plan : Plan = c.at.result.now in
    let here : plan ≡ get_or net.plans c.args.position plan = c.at.ensures ∙ ap (λ (ps : List Plan). get_or ps c.args.position plan) (c.plans.ensures ∙ ap (λ (n : Network). n.plans) c.net.ensures) in
    let there : plan_at net.plans plan.dest ≡ Some plan = subst (λ (q : Plan). plan_at net.plans q.dest ≡ Some q) (sym here) (found_in_place (λ (p : Plan). p.dest) net.plans c.args.position plan c.validity.ensures.plans_rise c.requires) in
    extract_right net c.validity.ensures plan.dest plan there

pub returns : goal.returns
returns c =
    let net : Network = c.args.net.now in
    let plan : Plan = c.at.result.now in
    let here : plan ≡ get_or net.plans c.args.position plan = c.at.ensures ∙ ap (λ (ps : List Plan). get_or ps c.args.position plan) (c.plans.ensures ∙ ap (λ (n : Network). n.plans) c.net.ensures) in
    λ other. c.by.ensures ∙ ap (excerpt_in net) (here ∙ get_or_default net.plans c.args.position plan other c.requires)
