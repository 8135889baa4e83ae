use Rattle.std.proofs.Common.{◌≡◌, None, replicate}
use Rattle.what_if.proofs.mending.Mends.places.Given as goal

-- the places so far
abbrev pub invariant-loop : goal.invariant-loop
invariant-loop l = l.list.items ≡ replicate l.counter None
