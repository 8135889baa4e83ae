use Rattle.std.proofs.Common.{◌≡◌, ◌++◌, map, drop}
use Rattle.profile.specs.Status.{choice}
use Rattle.excerpts.specs.Excerpt.{source_of}
use Rattle.profile.specs.Whole.{state_of}
use Rattle.transfer_state.proofs.table.table_by.Given as goal

-- the rows so far and those to come make all
abbrev pub invariant-loop-i : goal.invariant-loop-i
invariant-loop-i l =
    l.list.items ++ map (λ row. state_of (source_of l.e) row (choice (source_of l.e) row)) (drop l.i l.e.plan.rows)
    ≡ map (λ row. state_of (source_of l.e) row (choice (source_of l.e) row)) l.e.plan.rows
