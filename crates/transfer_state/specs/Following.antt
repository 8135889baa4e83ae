-- How choices are followed from those of the same plan before link sets became available or were so no longer (own).
use Rattle.std.specs.Prelude.{◌≡◌, ◌≢◌, ◌<◌, ℕ, ◌==◌, ◌||◌, Bool, true, false, List, Some, length, slice_get}
use Rattle.std.specs.List.{list_any}
use Rattle.std.specs.Option.{option_map_or}
use Rattle.net_items.specs.declared.lists.Row.{Row}
use Rattle.net_items.specs.Lookups.{mate_of}
use Rattle.link_sets.specs.Availability.{connected}
use Rattle.profile.specs.Status.{Source, choice_by}
use Rattle.excerpts.specs.Excerpt.{ExcerptValue, IsRight, leads}
use Rattle.excerpts.specs.Turned.{HasTurned}
use Rattle.excerpts.specs.declared.turned.Ends.{Ends}
use Rattle.transfer_state.specs.Kept.{KeptValue, kept}
use Rattle.transfer_state.specs.Routing.{RoutingValue, settled_routing, statuses_of}
use Rattle.transfer_state.specs.Told.{far_from}

-- the row in a place is marked
abbrev pub is_marked : List ℕ → ℕ → Bool
is_marked marks k = list_any (λ (m : ℕ). m == k) marks

-- each mark is the place of a row
abbrev pub AreMarks : ExcerptValue → List ℕ → Type 0
AreMarks x marks = (k : ℕ) → is_marked marks k ≡ true → k < length x.plan.rows

-- the marks of the first list are in the second
abbrev pub KeepsMarks : List ℕ → List ℕ → Type 0
KeepsMarks before after = (k : ℕ) → is_marked before k ≡ true → is_marked after k ≡ true

-- the row of a point is marked, if it has one
abbrev pub HasMark : ExcerptValue → List ℕ → ℕ → Type 0
HasMark x marks y = (k : ℕ) (row : Row) → slice_get x.plan.rows k ≡ Some row → row.point ≡ y → is_marked marks k ≡ true

-- so are the row of a point and that of its mate
pub record HasMarks (x : ExcerptValue) (marks : List ℕ) (y : ℕ) : Type 0 where
  pub own : HasMark x marks y
  pub mate : (m : ℕ) → mate_of x.network.points y ≡ Some m → HasMark x marks m

-- marked are the rows of a point and its mate, if the point's row leads to the other point, or that is the mate
pub record HasMarksOf (x : ExcerptValue) (marks : List ℕ) (y z : ℕ) : Type 0 where
  pub via : leads x.plan.rows y z ≡ true → HasMarks x marks y
  pub mate : mate_of x.network.points y ≡ Some z → HasMarks x marks y

-- one mark is taken out, and maybe stays under another place of the list
pub record IsWithoutMark (before after : List ℕ) (position : ℕ) : Type 0 where
  pub there : is_marked before position ≡ true
  pub kept : (k : ℕ) → is_marked after k ≡ true → is_marked before k ≡ true
  pub rest : (k : ℕ) → is_marked after k ≡ false → k ≢ position → is_marked before k ≡ false

-- marked is each row that rests on the status of a point: it, or its mate's row, leads there over an available set
abbrev pub HasReaders : ExcerptValue → List ℕ → ℕ → Type 0
HasReaders x marks z = (y : ℕ) → y < 16384 → connected x.network.sets z y ≡ true → HasMarksOf x marks y z

-- the choice of each row that isn't marked obeys the rule, by the statuses of the choices
abbrev pub ObeysBut : Source → List KeptValue → List ℕ → Type 0
ObeysBut src choices marks = (k : ℕ) (row : Row) → slice_get src.rows k ≡ Some row → is_marked marks k ≡ false → slice_get choices k ≡ Some (kept (choice_by src (far_from src choices) row))

-- the row of a point rests on what another point offers to it, or may: it leads there, or that is its mate
abbrev pub rests_on : ExcerptValue → ℕ → ℕ → Bool
rests_on x y z = leads x.plan.rows y z || option_map_or (λ m. m == z) (mate_of x.network.points y) false

-- in each network that differs from a routing's in sets between these ends alone, the statuses towards its destination are the routing's
abbrev pub KeepsStatuses : RoutingValue → List Ends → Type 0
KeepsStatuses r turned = (x : ExcerptValue) → IsRight x → x.plan.dest ≡ r.excerpt.plan.dest → HasTurned r.excerpt.network x.network turned → statuses_of (settled_routing x).choices ≡ statuses_of r.choices
