use Rattle.std.proofs.Common.{take}
use Rattle.std.specs.List.{AllZip}
use Rattle.dirty_sets.specs.Index.{IsReaderOf}
use Rattle.dirty_sets.proofs.index.TouchIndex.new.Given as goal

-- the plans so far have their readers
abbrev pub invariant-loop-position : goal.invariant-loop-position
invariant-loop-position l = AllZip (IsReaderOf l.net.points l.net.sets) (take l.position l.net.plans) l.list.items
