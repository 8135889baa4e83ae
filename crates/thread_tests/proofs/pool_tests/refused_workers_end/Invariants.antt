use Rattle.versions.specs.Book.{no_table}
use Rattle.thread_tests.proofs.pool_tests.refused_workers_end.Given as goal

-- the book that was just opened
abbrev pub ghosts-refused : goal.ghosts-refused
ghosts-refused g a = record { book = a.unnamed.shown.book; table = no_table; seats = 0 }
