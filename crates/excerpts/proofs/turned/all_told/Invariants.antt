use Rattle.std.proofs.Common.{◌≡◌, take, map}
use Rattle.excerpts.specs.Turned.{told_of}
use Rattle.excerpts.proofs.turned.all_told.Given as goal

-- what is true of the pairs so far is told
abbrev pub invariant-loop-pair : goal.invariant-loop-pair
invariant-loop-pair l = l.list.items ≡ map (told_of l.net.points) (take l.pair-index l.pairs)
