use Rattle.std.proofs.Common.{◌≡◌, length, map}
use Rattle.std.specs.Prelude.{find}
use Rattle.script_words.specs.Forms.{is_of, value_of}
use Rattle.script_words.proofs.form_table.find_among.Given as goal

-- a word has the same form among the rest as in the whole list
abbrev pub invariant-loop-first : goal.invariant-loop-first
invariant-loop-first l = find (is_of l.word) (map value_of l.list) ≡ find (is_of l.word) (map value_of l.rest)

abbrev pub decreases-loop-first : goal.decreases-loop-first
decreases-loop-first l = length l.rest
