use Rattle.std.proofs.Common.{◌≡◌, ◌≤◌, length, vec_len, vec_capacity}
use Rattle.desk_core.specs.Runs.{Runs}
use Rattle.desk_core.proofs.runs.run_all.Given as goal

-- what was done is a run, and there is room for the other replies
abbrev pub invariant-loop-step : goal.invariant-loop-step
invariant-loop-step l = record {
  done : Runs l.fn.desk l.yielded l.replies.items l.desk;
  len : length l.replies.items ≡ length l.yielded;
  room : vec_len l.fn.steps ≤ vec_capacity l.replies;
}
