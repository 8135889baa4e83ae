use Rattle.std.proofs.Common.{◌≡◌, drop}
use Rattle.tokens.specs.Pieces.{all_of}
use Rattle.tokens.specs.Marked.{marked_of}
use Rattle.tokens.proofs.PiecesLemmas.{onto}
use Rattle.tokens.proofs.WordsLemmas.{nows}
use Rattle.net_text.proofs.sets.read_links.Given as goal

-- what was read and what is left to read give what all gives
abbrev pub invariant-loop-word : goal.invariant-loop-word
invariant-loop-word l = onto l.links.items (all_of (marked_of l.format) (nows (drop l.word-index l.words))) ≡ all_of (marked_of l.format) (nows l.words)
