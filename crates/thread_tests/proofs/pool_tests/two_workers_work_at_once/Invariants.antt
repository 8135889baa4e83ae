use Rattle.versions.specs.Book.{no_table}
use Rattle.thread_tests.proofs.pool_tests.two_workers_work_at_once.Given as goal

-- the book that was just opened
abbrev pub ghosts-held : goal.ghosts-held
ghosts-held g a = record { book = a.unnamed.shown.book; table = no_table; seats = 0 }
