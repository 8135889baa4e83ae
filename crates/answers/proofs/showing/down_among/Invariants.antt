use Rattle.std.proofs.Common.{◌≡◌, filter, take}
use Rattle.answers.specs.Shown.{is_down}
use Rattle.answers.proofs.showing.down_among.Given as goal

abbrev pub invariant-loop-link : goal.invariant-loop-link
invariant-loop-link l = l.down.items ≡ filter is_down (take l.link-index l.links)
