use Rattle.std.proofs.Common.{◌≡◌, ◌<◌, ◌≤◌, ◌&&◌, ℕ, false}
use Rattle.dirty_sets.specs.Bits.{is_marked}
use Rattle.dirty_sets.proofs.noted.NotedIds.meets.Given as goal

-- no id so far is in both
abbrev pub invariant-loop-id : goal.invariant-loop-id
invariant-loop-id l = (n : ℕ) → l.self-inside.from ≤ n → n < l.id → (is_marked l.self-inside.ids n && is_marked l.other n) ≡ false
