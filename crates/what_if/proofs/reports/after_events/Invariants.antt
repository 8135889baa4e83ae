use Rattle.std.proofs.Common.{◌≡◌, ◌+◌, drop}
use Rattle.what_if.specs.Reports.{apply_from}
use Rattle.what_if.proofs.reports.after_events.Given as goal

-- the events that are left make all of the network so far, and the place is that of the last
abbrev pub invariant-loop-event : goal.invariant-loop-event
invariant-loop-event l = record { place : l.place ≡ l.event-index; made : apply_from (l.event-index + 1) l.net (drop l.event-index l.events) ≡ apply_from 1 l.fn.net l.events }
