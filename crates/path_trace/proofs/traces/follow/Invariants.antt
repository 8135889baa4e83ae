use Rattle.std.proofs.Common.{◌≡◌, ◌*◌}
use Rattle.profile.specs.Traces.{hops_within}
use Rattle.excerpts.specs.Excerpt.{source_of}
use Rattle.path_trace.proofs.FollowingLemmas.{after}
use Rattle.path_trace.proofs.traces.follow.Given as goal

-- the hops so far and those that are left make all
abbrev pub invariant-loop-dest : goal.invariant-loop-dest
invariant-loop-dest l = after l.hops.items (hops_within (source_of l.routing.excerpt) l.left l.point l.s) ≡ hops_within (source_of l.routing.excerpt) (2 * l.rank) l.fn.start l.s

-- one less each time
abbrev pub decreases-loop-dest : goal.decreases-loop-dest
decreases-loop-dest l = l.left
