use Rattle.std.proofs.Common.{length, take, ap, ◌∙◌, arith}
use Rattle.std.proofs.lemmas.List.{length-drop}
use Rattle.net_sheets.proofs.PlanLemmas.{rest_from}
use Rattle.net_sheets.proofs.rows.next_row.Goals as goal

pub returns-clause-within : goal.returns-clause-within
returns-clause-within c =
    omega (arith, length-drop c.args.at c.args.routes.now, ap length (rest_from c.args.at c.args.routes.now), c.in_ok-row.ensures.within)

pub returns-clause-row : goal.returns-clause-row
returns-clause-row c =
    c.in_ok-row.ensures.row ∙ ap (λ rs. take c.in_ok-row.count rs) (rest_from c.args.at c.args.routes.now)

pub returns-in-Some-third_via-clause-err : goal.returns-in-Some-third_via-clause-err
returns-in-Some-third_via-clause-err c = (c.in-Some-third_via.third, c.in-Some-third_via.ensures)
