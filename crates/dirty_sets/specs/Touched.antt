-- What is held of the touched destinations, and what it tells.
use Rattle.std.specs.Prelude.{◌||◌, Bool, List}
use Rattle.dirty_sets.specs.Bits.{is_marked}
use Rattle.dirty_sets.specs.Index.{TouchIndexValue, reads_any, reads_of}
use Rattle.dirty_sets.specs.Marks.{Marked}

-- an index, the sets that events were on since the last flush, and the destinations that are marked
pub record TouchedValue : Type 0 where
  pub index : TouchIndexValue
  pub ids : List Bool
  pub marks : List Bool

-- a destination is touched if it is marked, or if its table reads a set that an event was on since the last flush
abbrev pub marks_of : TouchedValue → Marked
marks_of n = record { index = reads_of n.index; touched = λ x. is_marked n.marks x || reads_any n.index.readers n.ids x }
