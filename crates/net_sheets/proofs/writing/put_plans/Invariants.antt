use Rattle.std.proofs.Common.{◌≡◌, ◌++◌, take, string_bytes}
use Rattle.std.specs.List.{flat_map}
use Rattle.net_sheets.specs.Tables.{line_text, route_record, plan_routes}
use Rattle.net_sheets.proofs.writing.put_plans.Given as goal

abbrev pub invariant-loop-place : goal.invariant-loop-place
invariant-loop-place l = string_bytes l.text ≡ string_bytes l.fn.text ++ flat_map (λ r. line_text (route_record r)) (flat_map plan_routes (take l.place l.plans))
