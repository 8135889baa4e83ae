use Rattle.std.proofs.Common.{◌≡◌, length}
use Rattle.tokens.specs.Pieces.{pieces_of}
use Rattle.tokens.specs.Rows.{vias_of}
use Rattle.tokens.proofs.PiecesLemmas.{onto}
use Rattle.tokens.proofs.rows.read_joined_classes.Given as goal

-- what was read and what is left to read give what all gives
abbrev pub invariant-loop-first : goal.invariant-loop-first
invariant-loop-first l = onto l.classes.items (pieces_of 47 vias_of l.rest) ≡ pieces_of 47 vias_of l.text

abbrev pub decreases-loop-first : goal.decreases-loop-first
decreases-loop-first l = length l.rest
