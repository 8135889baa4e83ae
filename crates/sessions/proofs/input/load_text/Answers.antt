use Rattle.sessions.proofs.input.load_text.Goals as goal

pub returns : goal.returns
returns c = c.of_run.ensures c.args.text.now c.load.ensures.ok c.load.ensures.err c.load.ensures.never_read
