use Rattle.std.proofs.Common.{◌+◌, ◌++◌, List, ℕ, ap, ◌∙◌, drop, arith}
use Rattle.std.specs.List.{flat_map}
use Rattle.std.specs.Option.{option_copied}
use Rattle.transfer_state.specs.Routing.{routed_excerpt}
use Rattle.what_if.proofs.GatheringLemmas.{each_more, each_all}
use Rattle.what_if.proofs.comparing.add_between.Goals as goal

pub loop-point-preserved : goal.loop-point-preserved
loop-point-preserved g c =
    let f : ℕ → List g.row.D.Denot = g.D.Difference.told (routed_excerpt (option_copied c.args.before)) (routed_excerpt (option_copied c.args.after)) c.args.dest in
    let xs : List ℕ = c.as_slice-point-items.result.now in
    ap (λ (done : List g.row.D.Denot). done ++ flat_map f (drop (c.loop-point.point-index + 1) xs)) c.in_ok-add.ensures
    ∙ each_more f xs c.loop-point.point-index c.point-item.result c.loop-point.list.items _ (omega arith) c.point-item.is c.loop-point.invariant

pub returns : goal.returns
returns g c =
    let f : ℕ → List g.row.D.Denot = g.D.Difference.told (routed_excerpt (option_copied c.args.before)) (routed_excerpt (option_copied c.args.after)) c.args.dest in
    each_all f c.as_slice-point-items.result.now c.loop-point.point-index c.loop-point.list.items _ (omega arith) c.loop-point.invariant
