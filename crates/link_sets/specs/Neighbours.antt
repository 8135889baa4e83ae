-- The neighbours of a point one by one, in rising code.
use Rattle.std.specs.Prelude.{◌≡◌, ◌<◌, ◌≤◌, ℕ, ◌==◌, ◌-◌, Bool, true, List, Option, Some, None, if◌then◌else◌, find, filter}
use Rattle.std.specs.List.{range_with_len}
use Rattle.std.specs.Option.{IfSome, MatchOption}
use Rattle.net_items.specs.declared.items.LinkSet.{LinkSet}
use Rattle.link_sets.specs.declared.neighbours.Neighbours.{Neighbours}
use Rattle.link_sets.specs.Availability.{connected}
use Rattle.net_items.specs.Lookups.{joins}

-- how many point codes there are; opaque, so that no proof counts them
unfoldable pub code_count : ℕ
code_count = 16384

-- every point code, in rising order
abbrev pub all_codes : List ℕ
all_codes = range_with_len 0 code_count

-- the points joined to a point by an available set, in rising code
abbrev pub neighbours : List LinkSet → ℕ → List ℕ
neighbours sets y = filter (connected sets y) all_codes

-- the first code from a on that passes
abbrev pub next_from : (ℕ → Bool) → ℕ → Option ℕ
next_from p a = find p (range_with_len a (code_count - a))

-- the neighbours that are left
abbrev pub left_of : Neighbours → List ℕ
left_of s = filter (connected s.sets.now s.point) (range_with_len s.from (code_count - s.from))

-- a code from a on
pub record IsCodeFrom (a z : ℕ) : Type 0 where
  pub late : a ≤ z
  pub coded : z < 16384

-- the point that a set joins to another
abbrev pub other_end_of : ℕ → LinkSet → Option ℕ
other_end_of y set = if set.a == y then Some set.b else (if set.b == y then Some set.a else None)

-- a neighbour from a code on
pub record IsNeighbour (sets : List LinkSet) (y from z : ℕ) : Type 0 where
  pub late : from ≤ z
  pub coded : z < 16384
  pub joined : connected sets y z ≡ true

-- a code is there, and it isn't above w
abbrev pub IsUpTo : Option ℕ → ℕ → Type 0
IsUpTo o w = MatchOption o ⊥ (λ z. z ≤ w)

-- the lesser of a code and the neighbour over one more set
pub record IsEarlier (sets : List LinkSet) (y from : ℕ) (set : LinkSet) (least answer : Option ℕ) : Type 0 where
  pub near : IfSome answer (IsNeighbour sets y from)
  pub here : (w : ℕ) → joins y w set ≡ true → from ≤ w → connected sets y w ≡ true → IsUpTo answer w
  pub kept : (w : ℕ) → IsUpTo least w → IsUpTo answer w
