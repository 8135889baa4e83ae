use Rattle.std.proofs.Common.{◌≡◌, drop}
use Rattle.net_data.specs.Edits.{apply_all}
use Rattle.net_building.proofs.applying.apply_each.Given as goal

-- what is left to apply gives what all gives
abbrev pub invariant-loop-event : goal.invariant-loop-event
invariant-loop-event l = apply_all l.net (drop l.event-index l.events) ≡ apply_all l.fn.net l.fn.events
