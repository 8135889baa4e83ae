use Rattle.thread_tests.proofs.guest_tests.three_guests_post_beside_workers.Given as goal

-- the book and the minutes that were just opened
abbrev pub ghosts-three : goal.ghosts-three
ghosts-three g a = record { book = a.unnamed.state.shown.book; table = a.unnamed.table; seats = a.unnamed.seats }
