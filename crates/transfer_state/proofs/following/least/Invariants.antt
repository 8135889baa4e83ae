use Rattle.std.proofs.Common.{◌<◌, ◌≤◌}
use Rattle.transfer_state.proofs.following.least.Given as goal

-- the least so far is one of the places so far
abbrev pub invariant-loop-at : goal.invariant-loop-at
invariant-loop-at l = record {
  low : l.least ≤ l.at;
  less : 0 < l.at → l.least < l.at;
}
