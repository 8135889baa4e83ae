use Rattle.std.proofs.Common.{◌≡◌, ◌++◌, take, string_bytes}
use Rattle.std.specs.List.{flat_map}
use Rattle.answers.specs.Mend.{set_link_word}
use Rattle.answers.proofs.mend.put_set_links.Given as goal

abbrev pub invariant-loop-link : goal.invariant-loop-link
invariant-loop-link l = string_bytes l.text ≡ string_bytes l.fn.text ++ flat_map set_link_word (take l.link-index l.links)
