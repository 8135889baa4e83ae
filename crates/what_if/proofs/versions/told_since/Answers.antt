use Rattle.std.proofs.Common.{◌++◌, ◌+◌, List, ℕ, Option, ap, ◌∙◌, drop, arith}
use Rattle.std.specs.List.{flat_map}
use Rattle.std.specs.Option.{option_copied}
use Rattle.net_data.specs.Network.{Network}
use Rattle.excerpts.specs.Excerpt.{ExcerptValue, excerpt_at}
use Rattle.transfer_state.specs.Routing.{routed_excerpt}
use Rattle.net_versions.proofs.PlannedLemmas.{routed_there}
use Rattle.what_if.specs.Reports.{both, dests, each_dest, each_point}
use Rattle.what_if.proofs.GatheringLemmas.{each_more, each_all}
use Rattle.what_if.proofs.versions.told_since.Goals as goal

pub loop-dest-preserved : goal.loop-dest-preserved
loop-dest-preserved g c =
    let tell = g.D.Difference.told in
    let old = c.args.old.now.network in
    let new = c.args.new.now.network in
    let f : ℕ → List g.row.D.Denot = λ x. each_point tell (excerpt_at old x) (excerpt_at new x) x in
    let x = c.dest-item.result in
    let before = ap routed_excerpt (c.as_ref.ensures.value ∙ c.routing-before.ensures) ∙ routed_there old x in
    let after = ap routed_excerpt (c.as_ref-in-loop-dest.ensures.value ∙ c.routing-after.ensures) ∙ routed_there new x in
    let one =
    ap (λ (o : Option ExcerptValue). c.loop-dest.list.items ++ each_point tell o (routed_excerpt (option_copied c.as_ref-in-loop-dest.result)) x) before
    ∙ ap (λ (o : Option ExcerptValue). c.loop-dest.list.items ++ each_point tell (excerpt_at old x) o x) after in
    ap (λ (done : List g.row.D.Denot). done ++ flat_map f (drop (c.loop-dest.dest-index + 1) c.as_slice-dest-items.result.now)) (c.in_ok-add_unlike.ensures ∙ one)
    ∙ each_more f c.as_slice-dest-items.result.now c.loop-dest.dest-index x c.loop-dest.list.items (each_dest tell old new) (omega arith) c.dest-item.is c.loop-dest.invariant

pub returns : goal.returns
returns g c =
    let old = c.args.old.now.network in
    let new = c.args.new.now.network in
    each_all (λ x. each_point g.D.Difference.told (excerpt_at old x) (excerpt_at new x) x)
    c.as_slice-dest-items.result.now c.loop-dest.dest-index c.loop-dest.list.items (each_dest g.D.Difference.told old new) (omega arith) c.loop-dest.invariant

pub loop-dest-init : goal.loop-dest-init
loop-dest-init g c =
    let old = c.args.old.now.network in
    let new = c.args.new.now.network in
    let f : ℕ → List g.row.D.Denot = λ x. each_point g.D.Difference.told (excerpt_at old x) (excerpt_at new x) x in
    ap (λ (none : List g.row.D.Denot). none ++ flat_map f c.as_slice-dest-items.result.now) c.new-list.ensures.items
    ∙ ap (flat_map f) (c.as_slice-dest-items.ensures.value ∙ c.in_ok-dests.ensures
    ∙ ap (λ (net : Network). both (dests net) (dests c.net-4.result.now)) (c.net-2.ensures ∙ c.net.ensures) ∙ ap (λ (net : Network). both (dests old) (dests net)) (c.net-4.ensures ∙ c.net-3.ensures))
