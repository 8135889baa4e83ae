use Rattle.std.proofs.Common.{◌≡◌}
use Rattle.excerpts.specs.Excerpt.{source_of}
use Rattle.what_if.proofs.MendingLemmas.{IsMended}
use Rattle.what_if.proofs.mending.sweep_rank.Given as goal

-- the rows of this rank so far, for what is wanted
abbrev pub invariant-loop-i : goal.invariant-loop-i
invariant-loop-i l = record {
  same : l.mends.wanted ≡ l.fn.mends.wanted;
  so_far : IsMended (source_of l.routing.excerpt) l.mends.wanted l.mends.list.items l.rank l.i;
}
