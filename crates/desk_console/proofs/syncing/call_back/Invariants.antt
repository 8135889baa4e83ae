use Rattle.std.proofs.Common.{[]}
use Rattle.desk_core.specs.Runs.{IsRunOf}
use Rattle.desk_console.specs.Settling.{HasOnlyTasks, out_count}
use Rattle.desk_console.proofs.syncing.call_back.Given as goal

-- only tasks differ so far, by a run of the desk's steps
abbrev pub invariant-loop-dest : goal.invariant-loop-dest
invariant-loop-dest l = record {
  only : HasOnlyTasks l.fn.desk l.desk;
  run : IsRunOf l.fn.desk [] l.desk;
}

abbrev pub decreases-loop-dest : goal.decreases-loop-dest
decreases-loop-dest l = out_count l.desk
