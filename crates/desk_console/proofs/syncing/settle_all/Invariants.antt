use Rattle.std.proofs.Common.{◌≡◌, []}
use Rattle.desk_core.specs.Runs.{IsRunOf}
use Rattle.desk_console.specs.Settling.{HasOnlyTasks, out_count, waiting_count}
use Rattle.desk_console.proofs.syncing.settle_all.Given as goal

-- only tasks differ so far, by a run of the desk's steps, and nothing is out
abbrev pub invariant-loop-alloc : goal.invariant-loop-alloc
invariant-loop-alloc l = record {
  only : HasOnlyTasks l.fn.desk l.desk;
  none : out_count l.desk ≡ 0;
  run : IsRunOf l.fn.desk [] l.desk;
}

abbrev pub decreases-loop-alloc : goal.decreases-loop-alloc
decreases-loop-alloc l = waiting_count l.desk
