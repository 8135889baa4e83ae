-- Points all of whose sets are available (own, after Q.704 clause 3.2).
use Rattle.std.specs.Prelude.{◌≡◌, ℕ, ◌%◌, Bool, true, false, List, slice_index_or}
use Rattle.net_items.specs.declared.items.LinkSet.{LinkSet}
use Rattle.net_items.specs.Lookups.{adjacent}
use Rattle.link_sets.specs.Availability.{connected}

-- wherever a set joins the point to another, it is available
abbrev pub IsIntact : List LinkSet → ℕ → Type 0
IsIntact sets y = (z : ℕ) → adjacent sets y z ≡ true → connected sets y z ≡ true

-- the entry of a point, which those have together whose codes leave the same remainder
abbrev pub told_intact : List Bool → ℕ → Bool
told_intact entries y = slice_index_or entries (y % 1024) false

-- a point whose entry is true is intact
abbrev pub TellIntact : List LinkSet → List Bool → Type 0
TellIntact sets entries = (y : ℕ) → told_intact entries y ≡ true → IsIntact sets y
