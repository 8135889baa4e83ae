use Rattle.std.proofs.Common.{◌≡◌, filter, take}
use Rattle.what_if.specs.Survey.{has_effect}
use Rattle.what_if.proofs.survey.with_effect.Given as goal

-- those of the effects so far that are some are there
abbrev pub invariant-loop-effect : goal.invariant-loop-effect
invariant-loop-effect l = l.some.items ≡ filter has_effect (take l.effect-index l.effects)
