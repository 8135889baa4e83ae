-- What is told by what is kept of choices in the rows' places, and by a table of far statuses.
use Rattle.std.specs.Prelude.{◌≡◌, ◌<◌, ℕ, ◌==◌, Bool, true, false, List, [], ◌∷◌, Some, All, length, slice_get, slice_index_or, if◌then◌else◌}
use Rattle.route_choice.specs.declared.choices.Far.{Far}
use Rattle.route_choice.specs.declared.choices.Far.TheVariants.{Allowed, Prohibited}
use Rattle.route_choice.specs.Routes.{Offer}
use Rattle.net_items.specs.declared.items.LinkSet.{LinkSet}
use Rattle.net_items.specs.declared.lists.Row.{Row}
use Rattle.net_items.specs.Lookups.{adjacent}
use Rattle.profile.specs.Status.{Source, source_rank, choice, status}
use Rattle.transfer_state.specs.Kept.{KeptValue, kept}
use Rattle.transfer_state.specs.declared.choosing.Statuses.{Statuses}
use Rattle.transfer_state.specs.declared.choosing.Statuses.TheVariants.{Table, Choices}

-- the far status of a code in a table
abbrev pub far_at : List Far → ℕ → Far
far_at fars z = slice_index_or fars z Prohibited

-- a table tells the statuses of the points of rank below n
abbrev pub TellsBelow : Source → List Far → ℕ → Type 0
TellsBelow src fars n = (z : ℕ) → source_rank src z < n → far_at fars z ≡ status src z

-- what is kept of the choices of the rows, in their places
abbrev pub AreChoices : Source → List KeptValue → Type 0
AreChoices src choices = (i : ℕ) (row : Row) → slice_get src.rows i ≡ Some row → slice_get choices i ≡ Some (kept (choice src row))

-- the rows of rank below n have their choices in place
abbrev pub KnowsBelow : Source → List KeptValue → ℕ → Type 0
KnowsBelow src choices n = (i : ℕ) (row : Row) → slice_get src.rows i ≡ Some row → row.rank < n → slice_get choices i ≡ Some (kept (choice src row))

-- a table of ranks has that of each row
abbrev pub HasRanks : List Row → List Bool → Type 0
HasRanks rows used = (i : ℕ) (row : Row) → slice_get rows i ≡ Some row → slice_index_or used row.rank false ≡ true

-- the status of the row of a point by choices in the rows' places, prohibited if it has no row
abbrev pub far_in : List Row → List KeptValue → ℕ → Far
far_in [] choices z = Prohibited
far_in (row ∷ rows) [] z = Prohibited
far_in (row ∷ rows) (c ∷ choices) z = if row.point == z then c.status else far_in rows choices z

-- the far status of a point by choices in the rows' places: allowed at the destination
abbrev pub far_from : Source → List KeptValue → ℕ → Far
far_from src choices z = if z == src.dest then Allowed else far_in src.rows choices z

-- the far status that is told
abbrev pub far_by : Source → Statuses → ℕ → Far
far_by src (Table fars) = far_at fars.now
far_by src (Choices choices) = far_from src choices.now

-- what is offered over a via that is connected
abbrev pub offer_connected : (ℕ → Far) → ℕ → Offer
offer_connected far z = record { via = z; far = far z }

-- a set joins a point to each of these
abbrev pub AreJoined : List LinkSet → ℕ → List ℕ → Type 0
AreJoined sets y vias = All (λ z. adjacent sets y z ≡ true) vias

-- a table of all codes, or a choice for each row
abbrev pub AreFull : Source → Statuses → Type 0
AreFull src (Table fars) = length fars.now ≡ 16384
AreFull src (Choices choices) = length choices.now ≡ length src.rows

-- a table of all codes tells the statuses that are kept of the first n rows, and allows the destination
pub record TellsKept (src : Source) (ks : List KeptValue) (fars : List Far) (n : ℕ) : Type 0 where
  pub coded : length fars ≡ 16384
  pub dest : far_at fars src.dest ≡ Allowed
  pub rows : (i : ℕ) (row : Row) (k : KeptValue) → i < n → slice_get src.rows i ≡ Some row → slice_get ks i ≡ Some k → far_at fars row.point ≡ k.status
