use Rattle.std.proofs.lemmas.Grind.{common_steps}
use Rattle.std.proofs.Common.{rules, arith, subst, sym}
use Rattle.std.proofs.lemmas.Result.{err_from_is_err_and}
use Rattle.desk_console.specs.Syncing.{HasKept}
use Rattle.desk_console.proofs.KeptLemmas.{kept_itself, kept_over}
use Rattle.desk_console.proofs.RunLemmas.{goes_on}
use Rattle.desk_console.proofs.syncing.sync.Goals as goal

-- what is newer is not published
pub returns-in_err-publish_at_once-clause-err : goal.returns-in_err-publish_at_once-clause-err
returns-in_err-publish_at_once-clause-err c =
    let p = err_from_is_err_and c.from_residual-in_err-publish_at_once.result c.from_residual-in_err-publish_at_once.ensures.1 in
    rw p.1 (kept_over c.args.desk.now c.close.new.desk c.publish_at_once.new.self c.steady.ensures c.in_ok-close.ensures.ok (subst (HasKept c.close.new.desk) (sym c.in_err-publish_at_once.ensures.err) (kept_itself c.close.new.desk)))

-- first the open target, then what is newer
pub returns-in_err-publish_at_once-clause-run : goal.returns-in_err-publish_at_once-clause-run
returns-in_err-publish_at_once-clause-run c = goes_on c.args.desk.now c.close.new.desk c.publish_at_once.new.self c.close.ensures.run c.publish_at_once.ensures.run

pub returns-clause-run : goal.returns-clause-run
returns-clause-run c = goes_on c.args.desk.now c.close.new.desk c.publish_at_once.new.self c.close.ensures.run c.publish_at_once.ensures.run

pub returns-clause-ok : goal.returns-clause-ok
returns-clause-ok c = grind (arith, common_steps)

pub returns-clause-published : goal.returns-clause-published
returns-clause-published c = search rules
