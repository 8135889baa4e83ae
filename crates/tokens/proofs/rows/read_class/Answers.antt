use Rattle.std.proofs.Common.{ap, sym, ◌∙◌, Some, []}
use Rattle.tokens.specs.Pieces.{pieces_of}
use Rattle.tokens.specs.Rows.{vias_of}
use Rattle.tokens.proofs.PiecesLemmas.{onto_nothing, read_last, read_last_none}
use Rattle.tokens.proofs.rows.read_class.Goals as goal

pub returns-in-None : goal.returns-in-None
returns-in-None c = read_last_none 47 vias_of [] c.args.text.now _ c.requires (sym c.in_ok-vias.ensures ∙ c.in-None.is) (onto_nothing (pieces_of 47 vias_of c.args.text.now))

pub returns-in-Some : goal.returns-in-Some
returns-in-Some c = ap Some c.of_one.ensures ∙ read_last 47 vias_of [] _ c.args.text.now _ c.requires (sym c.in_ok-vias.ensures ∙ c.in-Some.is) (onto_nothing (pieces_of 47 vias_of c.args.text.now))
