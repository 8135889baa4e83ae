use Rattle.std.proofs.Common.{◌≡◌, ◌++◌, take, string_bytes}
use Rattle.std.specs.List.{flat_map}
use Rattle.answers.specs.Reroutes.{reroute_text}
use Rattle.answers.proofs.reroutes.put_each.Given as goal

abbrev pub invariant-loop-reroute : goal.invariant-loop-reroute
invariant-loop-reroute l = string_bytes l.text ≡ string_bytes l.fn.text ++ flat_map reroute_text (take l.reroute-index l.list)
