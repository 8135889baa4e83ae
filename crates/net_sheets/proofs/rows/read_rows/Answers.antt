use Rattle.std.proofs.Common.{◌∷◌, [], length, take, ap, arith}
use Rattle.std.proofs.lemmas.List.{length-append}
use Rattle.net_sheets.specs.Tables.{row_routes}
use Rattle.net_sheets.proofs.PlanLemmas.{told_pushed}
use Rattle.net_sheets.proofs.rows.read_rows.Goals as goal

pub returns-then-not-is_of-clause-rows : goal.returns-then-not-is_of-clause-rows
returns-then-not-is_of-clause-rows c =
    told_pushed (row_routes c.args.dest) c.loop-at.rows.items c.push.new.list.items c.in_ok-row.row c.args.routes.now (take c.args.start c.args.routes.now) c.loop-at.at c.in_ok-row.count
    c.loop-at.invariant.rows c.in_ok-row.ensures.row c.in_ok-push.ensures

pub loop-at-preserved : goal.loop-at-preserved
loop-at-preserved c =
    record {
      after = omega arith;
      within = omega (arith, c.in_ok-row.ensures.within);
      some = λ h. omega (arith, ap length c.in_ok-push.ensures, length-append c.loop-at.rows.items (c.in_ok-row.row ∷ []));
      rows = told_pushed (row_routes c.args.dest) c.loop-at.rows.items c.push.new.list.items c.in_ok-row.row c.args.routes.now (take c.args.start c.args.routes.now) c.loop-at.at c.in_ok-row.count
          c.loop-at.invariant.rows c.in_ok-row.ensures.row c.in_ok-push.ensures;
    }
