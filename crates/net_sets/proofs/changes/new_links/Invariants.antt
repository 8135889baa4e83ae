use Rattle.std.proofs.Common.{◌≡◌, ◌≤◌, drop, length}
use Rattle.net_sets.specs.Sets.{new_links as the_new_links}
use Rattle.net_sets.proofs.changes.new_links.Given as goal

abbrev pub invariant-loop-position : goal.invariant-loop-position
invariant-loop-position l = record { within : l.position ≤ length l.slcs; done : l.links ≡ the_new_links (drop l.position l.slcs) }

abbrev pub decreases-loop-position : goal.decreases-loop-position
decreases-loop-position l = l.position
