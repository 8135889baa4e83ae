use Rattle.std.proofs.Common.{◌≡◌, ◌++◌, drop}
use Rattle.std.specs.List.{flat_map}
use Rattle.std.specs.Option.{option_copied}
use Rattle.transfer_state.specs.Routing.{routed_excerpt}
use Rattle.what_if.specs.Reports.{each_point}
use Rattle.what_if.proofs.comparing.add_between.Given as goal

-- what is told so far and what is told of the points to come are all
abbrev pub invariant-loop-point : goal.invariant-loop-point
invariant-loop-point g l =
    let tell = g.D.Difference.told in
    l.list.items ++ flat_map (tell (routed_excerpt (option_copied l.before)) (routed_excerpt (option_copied l.after)) l.dest) (drop l.point-index l.point-items)
    ≡ l.fn.list.items ++ each_point tell (routed_excerpt (option_copied l.before)) (routed_excerpt (option_copied l.after)) l.dest
