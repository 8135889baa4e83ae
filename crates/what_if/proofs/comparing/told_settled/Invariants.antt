use Rattle.std.proofs.Common.{◌≡◌, ◌++◌, drop}
use Rattle.std.specs.List.{flat_map}
use Rattle.excerpts.specs.Excerpt.{excerpt_at}
use Rattle.what_if.specs.Reports.{each_dest, each_point}
use Rattle.what_if.proofs.comparing.told_settled.Given as goal

-- what is told so far and what is told of the destinations to come are all
abbrev pub invariant-loop-dest : goal.invariant-loop-dest
invariant-loop-dest g l =
    let tell = g.D.Difference.told in
    l.list.items ++ flat_map (λ x. each_point tell (excerpt_at l.version.network x) (excerpt_at l.net x) x) (drop l.dest-index l.dest-items) ≡ each_dest tell l.version.network l.net
