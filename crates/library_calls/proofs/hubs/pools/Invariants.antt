use Rattle.std.proofs.Common.{[]}
use Rattle.library_calls.proofs.hubs.pools.Given as goal

-- the book that was just opened
abbrev pub ghosts-beside_workers : goal.ghosts-beside_workers
ghosts-beside_workers g a = record { book = a.unnamed.shown.book; table = record { words = 0; slots = 0; views_name = 0; atom = 0; block = 0; offset = 0; slot_names = [] }; seats = 0 }
