use Rattle.std.proofs.Common.{◌≡◌, ◌++◌, take, string_bytes}
use Rattle.std.specs.List.{flat_map}
use Rattle.answers.specs.Traces.{hop_text}
use Rattle.answers.proofs.traces.put_hops.Given as goal

abbrev pub invariant-loop-hop : goal.invariant-loop-hop
invariant-loop-hop l = string_bytes l.text ≡ string_bytes l.fn.text ++ flat_map hop_text (take l.hop-index l.hops)
