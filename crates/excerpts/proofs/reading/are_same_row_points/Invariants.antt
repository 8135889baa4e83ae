use Rattle.std.proofs.Common.{◌≡◌, map, length}
use Rattle.excerpts.specs.Excerpt.{row_point}
use Rattle.excerpts.proofs.reading.are_same_row_points.Given as goal

abbrev pub invariant-loop-row : goal.invariant-loop-row
invariant-loop-row l = record {
  to : map (row_point l.points) l.rest ≡ map (row_point l.other_points) l.rest → map (row_point l.points) l.rows ≡ map (row_point l.other_points) l.rows;
  from : map (row_point l.points) l.rows ≡ map (row_point l.other_points) l.rows → map (row_point l.points) l.rest ≡ map (row_point l.other_points) l.rest;
}

abbrev pub decreases-loop-row : goal.decreases-loop-row
decreases-loop-row l = length l.rest
