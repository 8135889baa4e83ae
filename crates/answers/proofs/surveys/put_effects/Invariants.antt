use Rattle.std.proofs.Common.{◌≡◌, ◌++◌, take, string_bytes}
use Rattle.std.specs.List.{flat_map}
use Rattle.answers.specs.Surveys.{effect_text}
use Rattle.answers.proofs.surveys.put_effects.Given as goal

abbrev pub invariant-loop-effect : goal.invariant-loop-effect
invariant-loop-effect l = string_bytes l.text ≡ string_bytes l.fn.text ++ flat_map effect_text (take l.effect-index l.effects)
