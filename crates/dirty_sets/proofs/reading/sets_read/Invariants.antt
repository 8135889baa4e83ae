use Rattle.std.proofs.Common.{◌≡◌, ℕ, false, take}
use Rattle.std.specs.Option.{option_map_or}
use Rattle.net_items.specs.Lookups.{set_at}
use Rattle.excerpts.specs.Excerpt.{is_read_by}
use Rattle.dirty_sets.specs.Bits.{is_marked}
use Rattle.dirty_sets.proofs.reading.sets_read.Given as goal

-- the sets so far are answered
abbrev pub invariant-loop-set : goal.invariant-loop-set
invariant-loop-set l = (n : ℕ) → is_marked l.ids n ≡ option_map_or (is_read_by l.points l.plan) (set_at (take l.set-index l.sets) n) false
