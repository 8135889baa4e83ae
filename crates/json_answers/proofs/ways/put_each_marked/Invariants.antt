use Rattle.std.proofs.Common.{map, take}
use Rattle.json_answers.specs.Members.{Adds, item_tokens}
use Rattle.json_answers.specs.Marked.{marked_value}
use Rattle.json_answers.proofs.ways.put_each_marked.Given as goal

abbrev pub invariant-loop-link : goal.invariant-loop-link
invariant-loop-link l = Adds l.initial.writer l.writer (item_tokens (map marked_value (take l.link-index l.links)))
