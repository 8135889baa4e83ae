use Rattle.std.proofs.Common.{map, take}
use Rattle.json_answers.specs.Members.{Adds, item_tokens}
use Rattle.json_answers.specs.Shown.{id_value}
use Rattle.json_answers.proofs.shown.put_ids.Given as goal

abbrev pub invariant-loop-id : goal.invariant-loop-id
invariant-loop-id l = Adds l.initial.writer l.writer (item_tokens (map id_value (take l.id-index l.ids)))
