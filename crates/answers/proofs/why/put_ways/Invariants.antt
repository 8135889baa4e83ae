use Rattle.std.proofs.Common.{◌≡◌, ◌++◌, take, string_bytes}
use Rattle.std.specs.List.{flat_map}
use Rattle.answers.specs.Why.{way_text}
use Rattle.answers.proofs.why.put_ways.Given as goal

abbrev pub invariant-loop-way : goal.invariant-loop-way
invariant-loop-way l = string_bytes l.text ≡ string_bytes l.fn.text ++ flat_map way_text (take l.way-index l.ways)
