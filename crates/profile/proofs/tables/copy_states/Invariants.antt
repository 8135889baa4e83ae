use Rattle.std.proofs.Common.{◌≡◌, take}
use Rattle.profile.proofs.tables.copy_states.Given as goal

-- the copies so far
abbrev pub invariant-loop-state : goal.invariant-loop-state
invariant-loop-state l = l.copies.items ≡ take l.state-index l.states
