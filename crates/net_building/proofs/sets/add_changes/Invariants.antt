use Rattle.std.proofs.Common.{◌≡◌, ◌++◌, take}
use Rattle.net_building.specs.Building.{changes_of}
use Rattle.net_building.proofs.sets.add_changes.Given as goal

-- the changes of the links so far are added
abbrev pub invariant-loop-link : goal.invariant-loop-link
invariant-loop-link l = l.events.items ≡ l.fn.events.items ++ changes_of l.id (take l.link-index l.links) l.change
