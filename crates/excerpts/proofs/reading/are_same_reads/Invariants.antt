use Rattle.std.proofs.Common.{◌≡◌, length}
use Rattle.std.specs.Prelude.{filter}
use Rattle.excerpts.specs.Excerpt.{is_read_by}
use Rattle.excerpts.proofs.reading.are_same_reads.Given as goal

-- what is left of both is the same exactly if both are
abbrev pub invariant-loop-set : goal.invariant-loop-set
invariant-loop-set l = record {
  to : filter (is_read_by l.points l.plan) l.left ≡ filter (is_read_by l.other_points l.plan) l.right → filter (is_read_by l.points l.plan) l.sets ≡ filter (is_read_by l.other_points l.plan) l.other_sets;
  from : filter (is_read_by l.points l.plan) l.sets ≡ filter (is_read_by l.other_points l.plan) l.other_sets → filter (is_read_by l.points l.plan) l.left ≡ filter (is_read_by l.other_points l.plan) l.right;
}

abbrev pub decreases-loop-set : goal.decreases-loop-set
decreases-loop-set l = length l.left
