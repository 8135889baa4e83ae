use Rattle.versions.specs.Book.{no_table}
use Rattle.thread_tests.proofs.hub_tests.room_is_made_for_posts.Given as goal

-- the book that was just opened
abbrev pub ghosts-reserved : goal.ghosts-reserved
ghosts-reserved g a = record { book = a.unnamed.shown.book; table = no_table; seats = 0 }
