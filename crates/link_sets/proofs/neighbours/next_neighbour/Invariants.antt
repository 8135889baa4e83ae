use Rattle.std.proofs.Common.{◌≡◌, ◌<◌, ◌≤◌, ℕ, Some, true, slice_get}
use Rattle.std.specs.Option.{IfSome}
use Rattle.net_items.specs.declared.items.LinkSet.{LinkSet}
use Rattle.link_sets.specs.Availability.{connected}
use Rattle.net_items.specs.Lookups.{joins}
use Rattle.link_sets.specs.Neighbours.{IsNeighbour, IsUpTo}
use Rattle.link_sets.proofs.neighbours.next_neighbour.Given as goal

-- the least neighbour over the sets so far
abbrev pub invariant-loop-i : goal.invariant-loop-i
invariant-loop-i l = record {
  near : IfSome l.least (IsNeighbour l.sets l.point l.from);
  before : (k w : ℕ) (set : LinkSet) → k < l.i → slice_get l.sets k ≡ Some set → joins l.point w set ≡ true → l.from ≤ w → connected l.sets l.point w ≡ true → IsUpTo l.least w;
}
