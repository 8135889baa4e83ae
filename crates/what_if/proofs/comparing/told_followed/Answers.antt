use Rattle.std.proofs.Common.{◌≡◌, ◌<◌, ◌≤◌, ◌++◌, ◌+◌, [], List, ap, sym, ◌∙◌, arith, drop, get_or, length}
use Rattle.std.proofs.lemmas.List.{get_or_default}
use Rattle.std.specs.List.{flat_map}
use Rattle.net_items.specs.declared.items.Plan.{Plan}
use Rattle.net_data.specs.Network.{Network}
use Rattle.what_if.specs.Reports.{each_dest, told_of_plan}
use Rattle.what_if.proofs.GatheringLemmas.{each_more, each_all}
use Rattle.what_if.proofs.PlacesLemmas.{each_planned}
use Rattle.what_if.proofs.comparing.told_followed.Goals as goal

pub add_in_place-requires-clause-position : goal.add_in_place-requires-clause-position
add_in_place-requires-clause-position g c = omega (arith, c.loop-position-test.true, c.len-position-end.ensures, ap (length {A = Plan}) (c.plans.ensures ∙ ap (λ (n : Network). n.plans) c.net.ensures))

pub loop-position-init : goal.loop-position-init
loop-position-init g c =
    let old = c.args.version.now.network in
    let new = c.args.net.now in
    ap (λ (none : List g.row.D.Denot). none ++ flat_map (told_of_plan g.D.Difference.told old new) new.plans) c.new-list.ensures.items
    ∙ each_planned g.D.Difference.told old new c.validity.ensures.plans_rise c.requires.plans

pub loop-position-preserved : goal.loop-position-preserved
loop-position-preserved g c =
    let old = c.args.version.now.network in
    let new = c.args.net.now in
    let f : Plan → List g.row.D.Denot = told_of_plan g.D.Difference.told old new in
    let l = c.loop-position in
    let d : Plan = record { dest = 0; rows = [] } in
    let low : l.position < length new.plans = omega (arith, c.loop-position-test.true, c.len-position-end.ensures, ap (length {A = Plan}) (c.plans.ensures ∙ ap (λ (n : Network). n.plans) c.net.ensures)) in
    ap (λ (done : List g.row.D.Denot). done ++ flat_map f (drop (l.position + 1) new.plans)) (c.in_ok-add_in_place.ensures d)
    ∙ each_more f new.plans l.position (get_or new.plans l.position d) l.list.items (each_dest g.D.Difference.told old new) low (sym (get_or_default new.plans l.position _ d low)) l.invariant

pub returns : goal.returns
returns g c =
    let old = c.args.version.now.network in
    let new = c.args.net.now in
    let l = c.loop-position in
    let high : length new.plans ≤ l.position = omega (arith, c.loop-position-test.false, c.len-position-end.ensures, ap (length {A = Plan}) (c.plans.ensures ∙ ap (λ (n : Network). n.plans) c.net.ensures)) in
    each_all (told_of_plan g.D.Difference.told old new) new.plans l.position l.list.items (each_dest g.D.Difference.told old new) high l.invariant
