use Rattle.std.proofs.Common.{◌≡◌, take}
use Rattle.answers.specs.Remedies.{actions}
use Rattle.answers.proofs.remedies.Remedy.of.Given as goal

abbrev pub invariant-loop-link : goal.invariant-loop-link
invariant-loop-link l = l.remedy ≡ actions l.sets (take l.link-index l.links)
