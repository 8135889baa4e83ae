use Rattle.std.proofs.Common.{◌≡◌, None, replicate}
use Rattle.desk_console.proofs.console.empty_slots.Given as goal

-- the slots so far
abbrev pub invariant-loop : goal.invariant-loop
invariant-loop l = l.slots.items ≡ replicate l.counter None
