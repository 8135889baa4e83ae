use Rattle.std.proofs.Common.{◌≡◌, ◌++◌, take, string_bytes}
use Rattle.std.specs.List.{flat_map}
use Rattle.answers.specs.Who.{seat_word}
use Rattle.answers.proofs.who.put_seats.Given as goal

abbrev pub invariant-loop-count : goal.invariant-loop-count
invariant-loop-count l = string_bytes l.text ≡ string_bytes l.fn.text ++ flat_map seat_word (take l.count-index l.counts)
