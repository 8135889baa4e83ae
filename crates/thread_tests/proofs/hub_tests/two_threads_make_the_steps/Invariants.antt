use Rattle.versions.specs.Book.{no_table}
use Rattle.thread_tests.proofs.hub_tests.two_threads_make_the_steps.Given as goal

-- the book that was just opened
abbrev pub ghosts-stepped : goal.ghosts-stepped
ghosts-stepped g a = record { book = a.unnamed.shown.book; table = no_table; seats = 0 }
