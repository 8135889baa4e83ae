use Rattle.std.proofs.Common.{◌≡◌, ◌≤◌, length}
use Rattle.excerpts.specs.Excerpt.{source_of}
use Rattle.what_if.specs.Mending.{KnowsMends}
use Rattle.what_if.proofs.mending.mends_below.Given as goal

abbrev pub invariant-loop-below : goal.invariant-loop-below
invariant-loop-below l = record {
  same : l.mends.wanted ≡ l.fn.wanted;
  ranked : 1 ≤ l.below;
  together : length l.mends.list.items ≡ length l.routing.excerpt.plan.rows;
  below : KnowsMends (source_of l.routing.excerpt) l.mends.wanted l.mends.list.items l.below;
}
