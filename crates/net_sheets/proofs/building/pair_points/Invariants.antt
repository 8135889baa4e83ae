use Rattle.std.proofs.Common.{◌≡◌, [], take, drop}
use Rattle.net_data.specs.Edits.{apply_all}
use Rattle.net_sheets.specs.Events.{pair_events_after}
use Rattle.net_sheets.proofs.building.pair_points.Given as goal

-- what is left to apply gives what all gives
abbrev pub invariant-loop-i : goal.invariant-loop-i
invariant-loop-i l = apply_all l.net (pair_events_after (take l.i l.points) (drop l.i l.points)) ≡ apply_all l.fn.net (pair_events_after [] l.points)
