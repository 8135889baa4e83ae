use Rattle.std.proofs.Common.{sym, ◌∙◌}
use Rattle.desk_console.proofs.RunLemmas.{gave, goes_on, took}
use Rattle.desk_console.proofs.StepLemmas.{IsSettled, settle_one, take_one, took_of_target}
use Rattle.desk_console.proofs.syncing.settle_next.Goals as goal

-- no job is refused but because memory ran out
pub want_of_memory-requires : goal.want_of_memory-requires
want_of_memory-requires c = (take_one c.args.desk.now c.take.result c.take.new.self c.requires.none c.requires.some c.take.ensures).refused c.in-Err.refusal c.in-Err.is

-- its result isn't compared
pub give_own-requires : goal.give_own-requires
give_own-requires c = λ asked. took_of_target c.args.desk.now c.take.new.self c.take.result c.in-Ok.job c.in-Ok-settle.settled c.in-Ok.is c.take.ensures c.in-Ok-settle.ensures.ok

-- no result is refused
pub unreachable-requires : goal.unreachable-requires
unreachable-requires c =
    let is : IsSettled c.args.desk.now c.give_own.result c.give_own.new.self
    = settle_one c.args.desk.now c.take.new.self c.give_own.new.self c.take.result c.in-Ok.job c.in-Ok-settle.settled c.give_own.result
    c.requires.none c.requires.some c.in-Ok.is c.take.ensures c.in-Ok-settle.ensures.ok c.give_own.ensures in
    let wrong = sym c.in-Err-give_own.is ∙ is.done in
    cc

pub returns-clause-none : goal.returns-clause-none
returns-clause-none c =
    (settle_one c.args.desk.now c.take.new.self c.give_own.new.self c.take.result c.in-Ok.job c.in-Ok-settle.settled c.give_own.result
    c.requires.none c.requires.some c.in-Ok.is c.take.ensures c.in-Ok-settle.ensures.ok c.give_own.ensures).none

pub returns-clause-fewer : goal.returns-clause-fewer
returns-clause-fewer c =
    (settle_one c.args.desk.now c.take.new.self c.give_own.new.self c.take.result c.in-Ok.job c.in-Ok-settle.settled c.give_own.result
    c.requires.none c.requires.some c.in-Ok.is c.take.ensures c.in-Ok-settle.ensures.ok c.give_own.ensures).fewer

-- a job is taken
pub returns-in-Err-clause-run : goal.returns-in-Err-clause-run
returns-in-Err-clause-run c = took c.args.desk.now c.take.new.self c.take.result c.take.ensures

pub returns-in-Err-settle-clause-run : goal.returns-in-Err-settle-clause-run
returns-in-Err-settle-clause-run c = took c.args.desk.now c.take.new.self c.take.result c.take.ensures

-- and its result is given
pub returns-clause-run : goal.returns-clause-run
returns-clause-run c =
    goes_on c.args.desk.now c.take.new.self c.give_own.new.self (took c.args.desk.now c.take.new.self c.take.result c.take.ensures)
    (gave c.take.new.self c.give_own.new.self c.in-Ok-settle.settled c.give_own.result c.give_own.ensures)
