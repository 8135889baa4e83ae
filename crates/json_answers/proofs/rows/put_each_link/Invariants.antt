use Rattle.std.proofs.Common.{take}
use Rattle.std.specs.List.{flat_map}
use Rattle.json_answers.specs.Members.{Adds, item_tokens}
use Rattle.json_answers.specs.Objects.{link_items}
use Rattle.json_answers.proofs.rows.put_each_link.Given as goal

abbrev pub invariant-loop-s : goal.invariant-loop-s
invariant-loop-s l = Adds l.initial.writer l.writer (item_tokens (flat_map link_items (take l.s l.links)))
