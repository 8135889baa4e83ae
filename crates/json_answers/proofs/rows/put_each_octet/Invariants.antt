use Rattle.std.proofs.Common.{map, take}
use Rattle.json_answers.specs.Members.{Adds, item_tokens}
use Rattle.json_answers.specs.Objects.{octet_value}
use Rattle.json_answers.proofs.rows.put_each_octet.Given as goal

abbrev pub invariant-loop-octet : goal.invariant-loop-octet
invariant-loop-octet l = Adds l.initial.writer l.writer (item_tokens (map octet_value (take l.octet-index l.octets)))
