use Rattle.std.proofs.Common.{◌≡◌, ◌≤◌, length}
use Rattle.std.specs.Prelude.{filter}
use Rattle.excerpts.specs.Excerpt.{is_read_by}
use Rattle.excerpts.proofs.reading.next_read.Given as goal

-- no set before the rest is read
abbrev pub invariant-loop-set : goal.invariant-loop-set
invariant-loop-set l = record {
  same : filter (is_read_by l.points l.plan) l.rest ≡ filter (is_read_by l.points l.plan) l.sets;
  fewer : length l.rest ≤ length l.sets;
}

abbrev pub decreases-loop-set : goal.decreases-loop-set
decreases-loop-set l = length l.rest
