use Rattle.std.proofs.Common.{◌≡◌, map, take}
use Rattle.what_if.specs.Survey.{effect_of}
use Rattle.what_if.proofs.survey.effects_of.Given as goal

-- the effects of what was tried so far are there
abbrev pub invariant-loop-single : goal.invariant-loop-single
invariant-loop-single l = l.effects.items ≡ map (effect_of l.version.network) (take l.single-index l.singles)
