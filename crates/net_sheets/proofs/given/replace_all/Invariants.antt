use Rattle.std.proofs.Common.{◌≡◌, map, drop}
use Rattle.net_data.specs.Edits.{apply_all}
use Rattle.net_building.specs.Building.{plan_event}
use Rattle.net_sheets.proofs.given.replace_all.Given as goal

-- what is left to apply gives what all gives
abbrev pub invariant-loop-i : goal.invariant-loop-i
invariant-loop-i l = apply_all l.net (map plan_event (drop l.i l.plans)) ≡ apply_all l.fn.net (map plan_event l.plans)
