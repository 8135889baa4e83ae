use Rattle.std.proofs.Common.{◌≡◌, ◌++◌, map, take}
use Rattle.excerpts.specs.Excerpt.{source_of}
use Rattle.answers.specs.Ways.{via_way}
use Rattle.answers.proofs.ways.Ways.add_class.Given as goal

abbrev pub invariant-loop-via : goal.invariant-loop-via
invariant-loop-via l = l.self ≡ l.fn.self ++ map (via_way (source_of l.routing.excerpt) l.row l.choice l.class) (take l.via-index l.vias)
