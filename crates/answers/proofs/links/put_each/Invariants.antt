use Rattle.std.proofs.Common.{◌≡◌, ◌++◌, take, string_bytes}
use Rattle.std.specs.List.{flat_map}
use Rattle.answers.specs.Links.{link_text}
use Rattle.answers.proofs.links.put_each.Given as goal

abbrev pub invariant-loop-s : goal.invariant-loop-s
invariant-loop-s l = string_bytes l.text ≡ string_bytes l.fn.text ++ flat_map link_text (take l.s l.links)
