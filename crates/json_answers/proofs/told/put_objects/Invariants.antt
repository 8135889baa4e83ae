use Rattle.std.proofs.Common.{map, take}
use Rattle.json_answers.specs.Members.{Adds, item_tokens, object_with}
use Rattle.json_answers.proofs.told.put_objects.Given as goal

-- the objects so far
abbrev pub invariant-loop-value : goal.invariant-loop-value
invariant-loop-value g l = Adds l.initial.writer l.writer (item_tokens (map (λ x. object_with (g.T.Told.members x)) (take l.value-index l.values)))
