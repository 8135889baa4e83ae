use Rattle.std.proofs.Common.{◌≡◌, ◌++◌, map, take}
use Rattle.net_items.specs.declared.links.Link.{Link}
use Rattle.net_data.specs.declared.events.Event.TheVariants as on
use Rattle.net_building.proofs.wholes.add_changes_in.Given as goal

-- the changes of the links so far are added
abbrev pub invariant-loop-link : goal.invariant-loop-link
invariant-loop-link l = l.events.items ≡ l.fn.events.items ++ map (λ (link : Link). on.Link l.set.id link.slc l.change) (take l.link-index l.set.links)
