use Rattle.std.proofs.Common.{◌≡◌, ◌++◌, drop}
use Rattle.std.specs.List.{flat_map}
use Rattle.what_if.specs.Reports.{each_dest, told_of_plan}
use Rattle.what_if.proofs.comparing.told_followed.Given as goal

-- what is told so far and what is told of the plans to come are all
abbrev pub invariant-loop-position : goal.invariant-loop-position
invariant-loop-position g l =
    let tell = g.D.Difference.told in
    l.list.items ++ flat_map (told_of_plan tell l.version.network l.net) (drop l.position l.net.plans) ≡ each_dest tell l.version.network l.net
