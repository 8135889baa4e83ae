use Rattle.std.proofs.Common.{◌≡◌, ◌++◌}
use Rattle.std.specs.Iterator.Adapters.{zip_first, zip_second}
use Rattle.std.specs.Slice.Iter.{iter_rest}
use Rattle.answers.specs.Who.{seat_counts}
use Rattle.answers.proofs.who.name_counts.Given as goal

-- what was pushed, and what the pairs that are left give
abbrev pub invariant-loop-name : goal.invariant-loop-name
invariant-loop-name l = l.list.items ++ seat_counts (iter_rest (zip_first l.name-iterator)) (iter_rest (zip_second l.name-iterator)) ≡ seat_counts l.names l.counts
