use Rattle.std.proofs.Common.{◌≡◌, take}
use Rattle.std.specs.List.{flat_map}
use Rattle.answers.specs.Shown.{links_in}
use Rattle.answers.proofs.showing.links_of.Given as goal

abbrev pub invariant-loop-set : goal.invariant-loop-set
invariant-loop-set l = l.links.items ≡ flat_map links_in (take l.set-index l.sets)
