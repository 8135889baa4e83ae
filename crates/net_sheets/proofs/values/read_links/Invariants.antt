use Rattle.std.proofs.Common.{◌≡◌, length}
use Rattle.tokens.specs.Pieces.{pieces_of}
use Rattle.tokens.specs.Marked.{marked_of}
use Rattle.tokens.specs.declared.marked.Format.TheVariants.{Two}
use Rattle.tokens.proofs.PiecesLemmas.{onto}
use Rattle.net_sheets.proofs.values.read_links.Given as goal

-- what was read and what is left to read give what all gives
abbrev pub invariant-loop-first : goal.invariant-loop-first
invariant-loop-first l = onto l.links.items (pieces_of 32 (marked_of Two) l.rest) ≡ pieces_of 32 (marked_of Two) l.text

abbrev pub decreases-loop-first : goal.decreases-loop-first
decreases-loop-first l = length l.rest
