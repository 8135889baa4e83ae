use Rattle.std.proofs.Common.{◌≡◌, ◌≤◌, take, length}
use Rattle.dirty_sets.specs.Waiting.{waiting}
use Rattle.dirty_sets.proofs.waiting.Waiting.len.Given as goal

-- as many as wait before the place
abbrev pub invariant-loop-position : goal.invariant-loop-position
invariant-loop-position l = record {
  counted : l.count ≡ length (waiting (take l.position l.self));
  few : l.count ≤ l.position;
}
