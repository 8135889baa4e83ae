use Rattle.std.proofs.Common.{◌≡◌, ◌++◌, map, take, string_bytes}
use Rattle.std.specs.List.{flat_map}
use Rattle.script_words.specs.Forms.{value_of}
use Rattle.answers.specs.Help.{word_text}
use Rattle.answers.proofs.help.put_words.Given as goal

abbrev pub invariant-loop-form : goal.invariant-loop-form
invariant-loop-form l = string_bytes l.text ≡ string_bytes l.fn.text ++ flat_map word_text (map value_of (take l.form-index l.list))
