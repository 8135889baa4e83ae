use Rattle.std.proofs.lemmas.Grind.{common_steps}
use Rattle.std.proofs.Common.{◌≡◌, ◌++◌, ◌<◌, ◌+◌, Bool, List, ap, ◌∙◌, arith, get_or, length, map, drop}
use Rattle.net_items.specs.declared.items.Plan.{Plan}
use Rattle.net_data.specs.Network.{Network}
use Rattle.transfer_state.proofs.TableLemmas.{made_more}
use Rattle.dirty_sets.specs.Bits.{is_marked}
use Rattle.desk_core.proofs.desk.at_once.touched_places.Goals as goal

pub loop-position-preserved : goal.loop-position-preserved
loop-position-preserved c =
    let plans : List Plan = c.args.net.now.plans in
    let low : c.loop-position.position < length plans = omega (arith, c.loop-position-test.true, c.len-position-end.ensures, ap (length {A = Plan}) (c.plans-plans.ensures ∙ ap (λ (n : Network). n.plans) c.net.ensures)) in
    let f : Plan → Bool = λ p. is_marked c.args.touched.now p.dest in
    let plan : Plan = c.at.result.now in
    let here : plan ≡ get_or plans c.loop-position.position plan
    = c.at.ensures ∙ ap (λ (ps : List Plan). get_or ps c.loop-position.position plan) (c.plans-plans.ensures ∙ ap (λ (n : Network). n.plans) c.net.ensures) in
    ap (λ (l : List Bool). l ++ map f (drop (c.loop-position.position + 1) plans)) c.in_ok-push.ensures.items
    ∙ made_more f plans c.loop-position.position plan c.loop-position.places.items _ c.has.result low (c.has.ensures ∙ ap f here) c.loop-position.invariant

pub returns : goal.returns
returns c = grind (arith, common_steps)
