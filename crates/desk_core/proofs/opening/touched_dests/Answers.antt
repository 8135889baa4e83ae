use Rattle.std.proofs.Common.{◌≡◌, ◌<◌, ◌∷◌, ◌++◌, [], List, ap, sym, ◌∙◌, append-nil, arith, cond, filter, get_or, length, map, take}
use Rattle.net_items.specs.declared.items.Plan.{Plan}
use Rattle.dirty_sets.specs.Bits.{is_marked}
use Rattle.desk_core.proofs.OpeningLemmas.{filter_map-next}
use Rattle.desk_core.proofs.opening.touched_dests.Goals.{then-has+in_ok-push, else-has}
use Rattle.desk_core.proofs.opening.touched_dests.Goals as goal

pub loop-position-preserved : goal.loop-position-preserved
loop-position-preserved c =
    let plan : Plan = c.at.result.now in
    let i = c.loop-position.position in
    let p = is_marked c.args.touched.now in
    let plans = c.args.net.now.plans in
    let low : i < length plans = omega (arith, ap (length {A = Plan}) c.plans-plans.ensures) in
    let here : plan ≡ get_or plans i plan = c.at.ensures ∙ ap (λ (ps : List Plan). get_or ps i plan) c.plans-plans.ensures in
    let next = filter_map-next p (λ (p : Plan). p.dest) plans i plan low here in
    let so_far = filter p (map (λ (p : Plan). p.dest) (take i plans)) in
    elim c.if-has.branch [
      | then-has+in_ok-push w ↦
          ap (λ d. d.items) w.dests-is ∙ w.in_ok-push.ensures.items ∙ ap (λ l. l ++ plan.dest ∷ []) c.loop-position.invariant
          ∙ ap (λ b. so_far ++ cond b (plan.dest ∷ []) []) (sym w.if-has.true ∙ c.has.ensures) ∙ sym next
      | else-has w ↦
          ap (λ d. d.items) w.dests-is ∙ c.loop-position.invariant ∙ sym (append-nil so_far)
          ∙ ap (λ b. so_far ++ cond b (plan.dest ∷ []) []) (sym w.if-has.false ∙ c.has.ensures) ∙ sym next
    ]
