use Rattle.std.proofs.Common.{take}
use Rattle.std.specs.List.{flat_map}
use Rattle.json_answers.specs.Members.{Adds, item_tokens}
use Rattle.json_answers.specs.Objects.{via_items}
use Rattle.json_answers.proofs.rows.put_vias.Given as goal

abbrev pub invariant-loop-via : goal.invariant-loop-via
invariant-loop-via l = Adds l.initial.writer l.writer (item_tokens (flat_map via_items (take l.via-index l.vias)))
