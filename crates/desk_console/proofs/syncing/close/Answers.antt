use Rattle.std.proofs.Common.{[]}
use Rattle.desk_core.specs.Runs.{IsRunOf}
use Rattle.desk_core.proofs.RunLemmas.{run_none}
use Rattle.desk_console.proofs.RunLemmas.{goes_on, published}
use Rattle.desk_console.proofs.syncing.close.Goals as goal

-- no target is open
pub returns-in_default-clause-run : goal.returns-in_default-clause-run
returns-in_default-clause-run c = run_none c.args.desk.now

-- what is out is abandoned, and all that waits is settled
pub returns-in_err-settle_all-clause-run : goal.returns-in_err-settle_all-clause-run
returns-in_err-settle_all-clause-run c = goes_on c.args.desk.now c.call_back.new.desk c.settle_all.new.desk c.call_back.ensures.run c.settle_all.ensures.run

-- and then the target is published, or that is refused
pub returns-in-Ok-clause-run : goal.returns-in-Ok-clause-run
returns-in-Ok-clause-run c =
    let settled : IsRunOf c.args.desk.now [] c.settle_all.new.desk = goes_on c.args.desk.now c.call_back.new.desk c.settle_all.new.desk c.call_back.ensures.run c.settle_all.ensures.run in
    goes_on c.args.desk.now c.settle_all.new.desk c.publish.new.self settled (published c.settle_all.new.desk c.publish.new.self c.publish.result c.publish.ensures)

pub returns-in-Err-clause-run : goal.returns-in-Err-clause-run
returns-in-Err-clause-run c =
    let settled : IsRunOf c.args.desk.now [] c.settle_all.new.desk = goes_on c.args.desk.now c.call_back.new.desk c.settle_all.new.desk c.call_back.ensures.run c.settle_all.ensures.run in
    goes_on c.args.desk.now c.settle_all.new.desk c.publish.new.self settled (published c.settle_all.new.desk c.publish.new.self c.publish.result c.publish.ensures)
