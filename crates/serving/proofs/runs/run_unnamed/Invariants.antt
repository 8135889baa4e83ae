use Rattle.serving.proofs.runs.run_unnamed.Given as goal

-- the book, the minutes and the seats that were just opened
abbrev pub ghosts-run_named : goal.ghosts-run_named
ghosts-run_named g a = record { book = a.unnamed.state.shown.book; table = a.unnamed.table; seats = a.unnamed.seats }
