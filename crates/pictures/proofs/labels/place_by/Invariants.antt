use Rattle.std.proofs.Common.{◌≡◌, take}
use Rattle.pictures.specs.Labels.{placed_by}
use Rattle.pictures.proofs.labels.place_by.Given as goal

abbrev pub invariant-loop-set : goal.invariant-loop-set
invariant-loop-set l = l.placed.items ≡ placed_by l.tries l.canvas l.places (take l.set-index l.sets)
