use Rattle.std.proofs.Common.{◌++◌, ◌+◌, List, ℕ, Option, ap, ◌∙◌, drop}
use Rattle.std.specs.List.{flat_map}
use Rattle.net_data.specs.Network.{Network}
use Rattle.excerpts.specs.Excerpt.{ExcerptValue, excerpt_at}
use Rattle.transfer_state.specs.Routing.{routed_excerpt}
use Rattle.net_versions.proofs.PlannedLemmas.{routed_there}
use Rattle.what_if.specs.Reports.{both, dests, each_dest, each_point}
use Rattle.what_if.proofs.GatheringLemmas.{each_more, each_all}
use Rattle.what_if.proofs.comparing.told_settled.Goals as goal

pub loop-dest-preserved : goal.loop-dest-preserved
loop-dest-preserved g c =
    let old = c.args.version.now.network in
    let new = c.args.net.now in
    let f : ℕ → List g.row.D.Denot = λ x. each_point g.D.Difference.told (excerpt_at old x) (excerpt_at new x) x in
    let xs = c.as_slice-dest-items.result.now in
    let l = c.loop-dest in
    let x = c.dest-item.result in
    let before = ap routed_excerpt (c.as_ref.ensures.value ∙ c.routing-before.ensures) ∙ routed_there old x in
    let one = ap (λ (o : Option ExcerptValue). l.list.items ++ each_point g.D.Difference.told o (excerpt_at new x) x) before in
    ap (λ (done : List g.row.D.Denot). done ++ flat_map f (drop (l.dest-index + 1) xs)) (c.in_ok-add_settled.ensures ∙ one)
    ∙ each_more f xs l.dest-index c.dest-item.result l.list.items (each_dest g.D.Difference.told old new) c.loop-dest-test.true c.dest-item.is l.invariant

pub returns : goal.returns
returns g c =
    let old = c.args.version.now.network in
    let new = c.args.net.now in
    let l = c.loop-dest in
    each_all (λ x. each_point g.D.Difference.told (excerpt_at old x) (excerpt_at new x) x)
    c.as_slice-dest-items.result.now l.dest-index l.list.items (each_dest g.D.Difference.told old new) c.loop-dest-test.false l.invariant

pub loop-dest-init : goal.loop-dest-init
loop-dest-init g c =
    let old = c.args.version.now.network in
    let new = c.args.net.now in
    let f : ℕ → List g.row.D.Denot = λ x. each_point g.D.Difference.told (excerpt_at old x) (excerpt_at new x) x in
    ap (λ (none : List g.row.D.Denot). none ++ flat_map f c.as_slice-dest-items.result.now) c.new-list.ensures.items
    ∙ ap (flat_map f) (c.as_slice-dest-items.ensures.value ∙ c.in_ok-dests.ensures
    ∙ ap (λ (net : Network). both (dests net) (dests c.net-3.result.now)) (c.net-2.ensures ∙ c.net.ensures) ∙ ap (λ (net : Network). both (dests old) (dests net)) (c.net-3.ensures))
