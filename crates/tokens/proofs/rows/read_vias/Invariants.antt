use Rattle.std.proofs.Common.{◌≡◌, length}
use Rattle.tokens.specs.Pieces.{pieces_of}
use Rattle.point_codes.specs.Codes.{code_of}
use Rattle.tokens.proofs.PiecesLemmas.{onto}
use Rattle.tokens.proofs.rows.read_vias.Given as goal

-- what was read and what is left to read give what all gives
abbrev pub invariant-loop-first : goal.invariant-loop-first
invariant-loop-first l = onto l.vias (pieces_of 43 code_of l.rest) ≡ pieces_of 43 code_of l.text

abbrev pub decreases-loop-first : goal.decreases-loop-first
decreases-loop-first l = length l.rest
