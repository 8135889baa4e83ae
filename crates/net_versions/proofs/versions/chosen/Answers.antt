use Rattle.std.proofs.Common.{◌++◌, ◌<◌, ◌+◌, List, ap, ◌∙◌, arith, length, map, drop}
use Rattle.net_items.specs.declared.items.Plan.{Plan}
use Rattle.net_data.specs.Network.{Network}
use Rattle.excerpts.specs.Excerpt.{excerpt_in}
use Rattle.transfer_state.specs.Routing.{ChoicesValue, settled_choices}
use Rattle.transfer_state.proofs.TableLemmas.{made_more}
use Rattle.net_versions.proofs.versions.chosen.Goals as goal

pub in_place-requires : goal.in_place-requires
in_place-requires c = omega (arith, c.loop-position-test.true, c.len-position-end.ensures, ap (length {A = Plan}) (c.plans-plans.ensures ∙ ap (λ (n : Network). n.plans) c.net.ensures))

pub loop-position-preserved : goal.loop-position-preserved
loop-position-preserved c =
    let low : c.loop-position.position < length c.args.net.now.plans = omega (arith, c.loop-position-test.true, c.len-position-end.ensures, ap (length {A = Plan}) (c.plans-plans.ensures ∙ ap (λ (n : Network). n.plans) c.net.ensures)) in
    let f : Plan → ChoicesValue = λ p. settled_choices (excerpt_in c.args.net.now p) in
    let d : Plan = c.in_place.result.plan in
    ap (λ (l : List ChoicesValue). l ++ map f (drop (c.loop-position.position + 1) c.args.net.now.plans)) c.in_ok-push.ensures.items
    ∙ made_more f c.args.net.now.plans c.loop-position.position d c.loop-position.list.items _ c.in_ok-of.field-0 low (c.in_ok-of.ensures.scratch ∙ ap settled_choices (c.in_place.ensures d)) c.loop-position.invariant
