use Rattle.std.proofs.Common.{◌≡◌, drop}
use Rattle.tokens.specs.Pieces.{all_of}
use Rattle.tokens.specs.Numbers.{slc_of}
use Rattle.tokens.proofs.PiecesLemmas.{onto}
use Rattle.tokens.proofs.WordsLemmas.{nows}
use Rattle.script_words.proofs.lists.read_slcs.Given as goal

-- what was read and what is left to read give what all gives
abbrev pub invariant-loop-word : goal.invariant-loop-word
invariant-loop-word l = onto l.slcs.items (all_of (slc_of) (nows (drop l.word-index l.words))) ≡ all_of (slc_of) (nows l.words)
