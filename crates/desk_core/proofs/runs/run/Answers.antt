use Rattle.std.proofs.Common.{◌≡◌, [], length, take, take_all, refl, sym, append-nil, arith}
use Rattle.desk_core.proofs.RunLemmas.{right_all, right_throughout}
use Rattle.desk_core.proofs.runs.run.Goals as goal

pub run_all-desk-requires-clause-room : goal.run_all-desk-requires-clause-room
run_all-desk-requires-clause-room c = omega (arith, c.in-Ok.ensures.capacity, c.len.ensures)

pub run_all-desk-requires-clause-none : goal.run_all-desk-requires-clause-none
run_all-desk-requires-clause-none c = c.in-Ok.ensures.items

pub returns-in-Ok-clause-steps : goal.returns-in-Ok-clause-steps
returns-in-Ok-clause-steps c =
    let all : take (length c.run_all-desk.result.1.items) c.args.steps.items ≡ c.args.steps.items = take_all _ c.args.steps.items (omega (arith, c.run_all-desk.ensures.len)) in
    rw (c.new.ensures.items, all) (sym (append-nil c.args.steps.items))

-- all steps were done, and each left the right version
pub returns-in-Ok-clause-run : goal.returns-in-Ok-clause-run
returns-in-Ok-clause-run c = (right_all c.args.desk c.steady.ensures c.args.steps.items c.run_all-desk.result.1.items c.run_all-desk.result.0 c.run_all-desk.ensures.len c.run_all-desk.ensures.run).0

pub returns-in-Ok-clause-right : goal.returns-in-Ok-clause-right
returns-in-Ok-clause-right c = (right_all c.args.desk c.steady.ensures c.args.steps.items c.run_all-desk.result.1.items c.run_all-desk.result.0 c.run_all-desk.ensures.len c.run_all-desk.ensures.run).1

-- no step was done
pub returns-in-Err-clause-steps : goal.returns-in-Err-clause-steps
returns-in-Err-clause-steps c = rw c.new-in-Err.ensures.items refl

pub returns-in-Err-clause-run : goal.returns-in-Err-clause-run
returns-in-Err-clause-run c = rw c.new-in-Err.ensures.items refl

pub returns-in-Err-clause-right : goal.returns-in-Err-clause-right
returns-in-Err-clause-right c = rw c.new-in-Err.ensures.items (right_throughout c.args.desk c.steady.ensures [] [] c.args.desk refl)
