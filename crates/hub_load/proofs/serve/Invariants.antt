use Rattle.versions.specs.Book.{no_table}
use Rattle.hub_load.proofs.serve.Given as goal

-- the book that was just opened
abbrev pub ghosts-run_load : goal.ghosts-run_load
ghosts-run_load g a = record { book = a.unnamed.shown.book; table = no_table; seats = 0 }
