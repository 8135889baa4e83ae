use Rattle.std.proofs.Common.{◌≡◌, ℕ, ◌&&◌, ◌||◌, eqb, take}
use Rattle.std.specs.List.{list_any}
use Rattle.dirty_sets.specs.declared.readers.Reader.{Reader}
use Rattle.dirty_sets.specs.Bits.{is_marked}
use Rattle.dirty_sets.specs.Index.{would_read}
use Rattle.dirty_sets.proofs.readers.mark_new_readers.Given as goal

-- those of the readers so far are marked
abbrev pub invariant-loop-reader : goal.invariant-loop-reader
invariant-loop-reader l = (x : ℕ) → is_marked l.marks x ≡ (is_marked l.initial.marks x || list_any (λ (r : Reader). eqb r.dest x && would_read l.net l.set r.dest) (take l.reader-index l.readers))
