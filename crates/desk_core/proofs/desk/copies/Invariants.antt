use Rattle.std.proofs.Common.{◌≡◌, take}
use Rattle.desk_core.proofs.desk.copies.Given as goal

-- the copies so far
abbrev pub invariant-loop-event : goal.invariant-loop-event
invariant-loop-event l = l.list.items ≡ take l.event-index l.events
