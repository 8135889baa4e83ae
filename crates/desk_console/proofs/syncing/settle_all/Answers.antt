use Rattle.std.proofs.Common.{◌≡◌, sym, ◌∙◌}
use Rattle.desk_console.specs.Settling.{waiting_count}
use Rattle.desk_core.proofs.RunLemmas.{run_none}
use Rattle.desk_console.proofs.RunLemmas.{goes_on}
use Rattle.desk_console.proofs.StepLemmas.{nothing_left, only_none, only_then, waits_first}
use Rattle.desk_console.proofs.syncing.settle_all.Goals as goal

pub loop-alloc-init : goal.loop-alloc-init
loop-alloc-init c = record { only = only_none c.args.desk.now; none = c.requires; run = run_none c.args.desk.now }

pub settle_next-requires-clause-some : goal.settle_next-requires-clause-some
settle_next-requires-clause-some c = (waits_first c.loop-alloc.desk).0 (sym c.has_waiting.ensures ∙ c.loop-alloc-test.true)

-- one result more
pub loop-alloc-preserved : goal.loop-alloc-preserved
loop-alloc-preserved c =
    let one = c.in_ok-settle_next.ensures in
    record {
      only = only_then c.args.desk.now c.loop-alloc.desk c.settle_next.new.desk c.loop-alloc.invariant.only one.only;
      none = one.none;
      run = goes_on c.args.desk.now c.loop-alloc.desk c.settle_next.new.desk c.loop-alloc.invariant.run one.run;
    }

pub returns-in_err-settle_next-clause-run : goal.returns-in_err-settle_next-clause-run
returns-in_err-settle_next-clause-run c = goes_on c.args.desk.now c.loop-alloc.desk c.settle_next.new.desk c.loop-alloc.invariant.run c.in_err-settle_next.ensures.run

-- nothing waits, and nothing is out
pub returns-clause-done : goal.returns-clause-done
returns-clause-done c =
    let idle : waiting_count c.loop-alloc.desk ≡ 0 = (waits_first c.loop-alloc.desk).1 (sym c.has_waiting.ensures ∙ c.loop-alloc-test.false) in
    nothing_left c.loop-alloc.desk c.loop-alloc.invariant.none idle
