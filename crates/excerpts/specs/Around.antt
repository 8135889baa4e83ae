-- The neighbours of a point of a frozen network one by one.
use Rattle.std.specs.Prelude.{ℕ, ◌-◌, List, filter}
use Rattle.std.specs.List.{range_with_len}
use Rattle.link_sets.specs.Availability.{connected}
use Rattle.link_sets.specs.Neighbours.{code_count}
use Rattle.excerpts.specs.declared.neighbours.Neighbours.{Neighbours}

-- the neighbours that are left
abbrev pub neighbours_left : Neighbours → List ℕ
neighbours_left s = filter (connected s.net.now.sets s.point) (range_with_len s.from (code_count - s.from))
