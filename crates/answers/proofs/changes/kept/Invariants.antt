use Rattle.std.proofs.Common.{◌≡◌, filter, take}
use Rattle.answers.specs.Changes.{is_of_kind}
use Rattle.answers.proofs.changes.kept.Given as goal

-- those of the kind so far are there
abbrev pub invariant-loop-reroute : goal.invariant-loop-reroute
invariant-loop-reroute l = l.list.items ≡ filter (is_of_kind l.which) (take l.reroute-index l.reroutes)
