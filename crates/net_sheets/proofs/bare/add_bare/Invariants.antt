use Rattle.std.proofs.Common.{◌≡◌, take, drop, true}
use Rattle.std.specs.List.{flat_map}
use Rattle.net_sets.specs.Sets.{is_distinct}
use Rattle.net_data.specs.Edits.{apply_all}
use Rattle.net_sheets.specs.Events.{bare_events}
use Rattle.net_sheets.proofs.bare.add_bare.Given as goal

-- no destination stands twice so far, and what is left to apply gives what all gives
abbrev pub invariant-loop-i : goal.invariant-loop-i
invariant-loop-i l = record {
  apart : is_distinct (take l.i l.bare) ≡ true;
  applied : apply_all l.net (flat_map bare_events (drop l.i l.bare)) ≡ apply_all l.fn.net (flat_map bare_events l.bare);
}
