use Rattle.std.proofs.Common.{◌≡◌, take, drop}
use Rattle.std.specs.List.{AllZip}
use Rattle.dirty_sets.specs.Index.{IsWithId, would_read}
use Rattle.dirty_sets.proofs.readers.add_set.Given as goal

-- the readers so far have the answer, and the others are as they were
abbrev pub invariant-loop-reader : goal.invariant-loop-reader
invariant-loop-reader l = record { done : AllZip (IsWithId l.set.id (would_read l.net l.set)) (take l.reader-index l.initial.readers) (take l.reader-index l.readers); rest : drop l.reader-index l.readers ≡ drop l.reader-index l.initial.readers }
