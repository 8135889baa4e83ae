use Rattle.pictures.proofs.dot.write_point.Goals as goal

pub returns : goal.returns
returns c = rw (c.shape_word-shape.ensures, c.hex_word-colour.ensures) at c.in_ok-text.ensures.ok
