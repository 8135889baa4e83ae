use Rattle.std.proofs.Common.{ap}
use Rattle.net_sheets.specs.Tables.{routes_of, routes_header, line_text}
use Rattle.net_sheets.proofs.WritingLemmas.{lines_made}
use Rattle.net_sheets.proofs.writing.write_routes.Goals as goal

pub returns : goal.returns
returns c = lines_made (line_text routes_header) _ _ (routes_of c.args.net.now.plans) _ c.in_ok-text.ensures.ok (ap routes_of c.plans.ensures) c.in_ok-put_plans.ensures
