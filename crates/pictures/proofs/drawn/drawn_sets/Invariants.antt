use Rattle.std.proofs.Common.{◌≡◌, take, map}
use Rattle.pictures.specs.Shown.{drawn_set}
use Rattle.pictures.proofs.drawn.drawn_sets.Given as goal

abbrev pub invariant-loop-set : goal.invariant-loop-set
invariant-loop-set l = l.drawn.items ≡ map (drawn_set l.shown) (take l.set-index l.net.sets)
