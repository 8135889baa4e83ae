use Rattle.std.proofs.Common.{◌≡◌, true, take}
use Rattle.std.specs.List.{list_all}
use Rattle.dirty_sets.specs.Waiting.{Task}
use Rattle.dirty_sets.proofs.waiting.Waiting.first_position.Given as goal

-- all before the place are out
abbrev pub invariant-loop-position : goal.invariant-loop-position
invariant-loop-position l = list_all (λ (t : Task). t.is_out) (take l.position l.self) ≡ true
