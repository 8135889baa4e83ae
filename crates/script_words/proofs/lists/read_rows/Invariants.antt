use Rattle.std.proofs.Common.{◌≡◌, drop}
use Rattle.tokens.specs.Pieces.{all_of}
use Rattle.tokens.specs.Rows.{row_of}
use Rattle.tokens.proofs.PiecesLemmas.{onto}
use Rattle.tokens.proofs.WordsLemmas.{nows}
use Rattle.script_words.proofs.lists.read_rows.Given as goal

-- what was read and what is left to read give what all gives
abbrev pub invariant-loop-word : goal.invariant-loop-word
invariant-loop-word l = onto l.rows.items (all_of (row_of) (nows (drop l.word-index l.words))) ≡ all_of (row_of) (nows l.words)
