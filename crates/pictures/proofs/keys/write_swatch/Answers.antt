use Rattle.pictures.proofs.keys.write_swatch.Goals as goal

pub returns : goal.returns
returns c = rw (c.hex_word-hex.ensures) at c.in_ok-text.ensures.ok
