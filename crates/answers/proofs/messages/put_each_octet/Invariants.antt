use Rattle.std.proofs.Common.{◌≡◌, ◌++◌, take, string_bytes}
use Rattle.std.specs.List.{flat_map}
use Rattle.answers.specs.Messages.{octet_text}
use Rattle.answers.proofs.messages.put_each_octet.Given as goal

abbrev pub invariant-loop-octet : goal.invariant-loop-octet
invariant-loop-octet l = string_bytes l.text ≡ string_bytes l.fn.text ++ flat_map octet_text (take l.octet-index l.octets)
