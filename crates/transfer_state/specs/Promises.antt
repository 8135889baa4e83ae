-- What the tables that are made promise, besides being the table from scratch.
use Rattle.std.specs.Prelude.{◌≡◌, ◌≢◌, ◌↔◌, ℕ, ◌==◌, true, Option, Some, find, if◌then◌else◌}
use Rattle.std.specs.Option.{option_map_or}
use Rattle.route_choice.specs.declared.choices.Far.{Far}
use Rattle.route_choice.specs.declared.choices.Far.TheVariants.{Allowed, Prohibited}
use Rattle.profile.specs.declared.tables.RowState.{RowState}
use Rattle.profile.specs.declared.tables.Table.{Table}
use Rattle.profile.specs.Status.{Source}
use Rattle.profile.specs.Walk.{Walk}

-- the state of a point's row
abbrev pub state_in : Table → ℕ → Option RowState
state_in table y = find (λ (state : RowState). state.point == y) table.rows

-- the status of a point by a table: allowed at the destination, prohibited if there is no row
abbrev pub status_in : Table → ℕ → Far
status_in table y = if y == table.dest then Allowed else option_map_or (λ (state : RowState). state.choice.status) (state_in table y) Prohibited

-- a status isn't prohibited exactly if a walk over available sets leads to the destination
abbrev pub TellsWalks : Source → Table → Type 0
TellsWalks src table = (y : ℕ) → (status_in table y ≢ Prohibited) ↔ Walk src true y

-- no two mates use each other
abbrev pub KeepsMatesApart : Source → Table → Type 0
KeepsMatesApart src table =
    (y z : ℕ) (one other : RowState) → state_in table y ≡ Some one → state_in table z ≡ Some other → src.mate_of y ≡ Some z → one.choice.class ≡ 5 → other.choice.class ≢ 5
