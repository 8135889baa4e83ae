use Rattle.std.proofs.Common.{◌≡◌, filter, take}
use Rattle.std.specs.List.{flat_map}
use Rattle.net_sets.specs.Sets.{is_end}
use Rattle.net_building.specs.Wholes.{changes_at}
use Rattle.net_building.proofs.wholes.changes_of_point.Given as goal

-- the changes of the sets so far are there
abbrev pub invariant-loop-set : goal.invariant-loop-set
invariant-loop-set l = l.events.items ≡ flat_map (changes_at l.point l.change) (filter (is_end l.point) (take l.set-index l.sets))
