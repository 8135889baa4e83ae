use Rattle.std.proofs.Common.{◌≡◌, ◌+◌, ◌≤◌}
use Rattle.std.specs.Prelude.{vec_capacity, vec_len}
use Rattle.serving.specs.Sittings.{IsEndedTo}
use Rattle.serving.proofs.ends.end_all.Given as goal

-- the last sessions have ended, the others are left, and there is room for their ends
abbrev pub invariant-loop-sitting : goal.invariant-loop-sitting
invariant-loop-sitting g l =
    (l.history ≡ l.fn.history) × IsEndedTo g.N.Naming.seats l.fn.history.log l.fn.history.state l.fn.sittings.items l.sittings.items l.ends.items
    × (vec_len l.ends + vec_len l.sittings ≤ vec_capacity l.ends)

abbrev pub decreases-loop-sitting : goal.decreases-loop-sitting
decreases-loop-sitting g l = vec_len l.sittings
