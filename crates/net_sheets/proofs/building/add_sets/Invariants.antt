use Rattle.std.proofs.Common.{◌≡◌, drop}
use Rattle.std.specs.List.{flat_map}
use Rattle.net_data.specs.Edits.{apply_all}
use Rattle.net_building.specs.Building.{set_events}
use Rattle.net_sheets.proofs.building.add_sets.Given as goal

-- what is left to apply gives what all gives
abbrev pub invariant-loop-i : goal.invariant-loop-i
invariant-loop-i l = apply_all l.net (flat_map set_events (drop l.i l.sets)) ≡ apply_all l.fn.net (flat_map set_events l.sets)
