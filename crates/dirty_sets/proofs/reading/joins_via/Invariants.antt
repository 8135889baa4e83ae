use Rattle.std.proofs.Common.{◌≡◌, length}
use Rattle.std.specs.List.{list_any}
use Rattle.net_items.specs.declared.lists.Row.{Row}
use Rattle.net_items.specs.Lookups.{joins}
use Rattle.dirty_sets.proofs.reading.joins_via.Given as goal

-- the rest gives the answer
abbrev pub invariant-loop-row : goal.invariant-loop-row
invariant-loop-row l = list_any (λ (row : Row). list_any (λ vias. list_any (λ via. joins row.point via l.set) vias) row.classes) l.rest ≡ list_any (λ (row : Row). list_any (λ vias. list_any (λ via. joins row.point via l.set) vias) row.classes) l.rows

abbrev pub decreases-loop-row : goal.decreases-loop-row
decreases-loop-row l = length l.rest
