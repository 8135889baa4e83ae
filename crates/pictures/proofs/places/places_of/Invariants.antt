use Rattle.std.proofs.Common.{◌≡◌, take, map}
use Rattle.pictures.specs.Layout.{placed}
use Rattle.pictures.proofs.places.places_of.Given as goal

abbrev pub invariant-loop-stand : goal.invariant-loop-stand
invariant-loop-stand l = l.places.items ≡ map (placed l.frame l.stands) (take l.stand-index l.stands)
