use Rattle.std.proofs.Common.{◌≡◌}
use Rattle.std.specs.Vec.Iter.{into_iter_items}
use Rattle.net_data.specs.Edits.{apply_all}
use Rattle.net_building.proofs.applying.apply_events.Given as goal

-- what is left to apply gives what all gives
abbrev pub invariant-loop-event : goal.invariant-loop-event
invariant-loop-event l = apply_all l.net (into_iter_items l.event-iterator) ≡ apply_all l.fn.net l.fn.events.items
