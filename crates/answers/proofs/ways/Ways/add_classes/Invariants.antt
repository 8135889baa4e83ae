use Rattle.std.proofs.Common.{◌≡◌, ◌≤◌, ◌+◌, ◌++◌, length}
use Rattle.excerpts.specs.Excerpt.{source_of}
use Rattle.answers.specs.Ways.{class_ways}
use Rattle.answers.proofs.ways.Ways.add_classes.Given as goal

-- the classes that are left end the ways
abbrev pub invariant-loop-vias : goal.invariant-loop-vias
invariant-loop-vias l = record {
  ways : l.self ++ class_ways (source_of l.routing.excerpt) l.row l.choice l.class l.rest
      ≡ l.fn.self ++ class_ways (source_of l.routing.excerpt) l.row l.choice 1 l.row.classes;
  few : l.class + length l.rest ≤ 5;
}

abbrev pub decreases-loop-vias : goal.decreases-loop-vias
decreases-loop-vias l = length l.rest
