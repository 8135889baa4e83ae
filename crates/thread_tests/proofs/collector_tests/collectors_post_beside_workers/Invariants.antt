use Rattle.versions.specs.Book.{no_table}
use Rattle.thread_tests.proofs.collector_tests.collectors_post_beside_workers.Given as goal

-- the book that was just opened
abbrev pub ghosts-collected : goal.ghosts-collected
ghosts-collected g a = record { book = a.unnamed.shown.book; table = no_table; seats = 0 }
