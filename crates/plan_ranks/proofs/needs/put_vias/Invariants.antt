use Rattle.std.proofs.Common.{◌≡◌, ◌++◌, take}
use Rattle.std.specs.List.{flat_map}
use Rattle.plan_ranks.specs.Ranks.{via_needs}
use Rattle.plan_ranks.proofs.needs.put_vias.Given as goal

abbrev pub invariant-loop-via : goal.invariant-loop-via
invariant-loop-via l = l.needs.items ≡ l.fn.needs.items ++ flat_map (via_needs l.rows l.dest l.place) (take l.via-index l.vias)
