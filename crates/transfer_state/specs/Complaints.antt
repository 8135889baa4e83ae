-- What is wrong with a table: the first row that isn't what its neighbours' messages make it (own).
use Rattle.std.specs.Prelude.{◌≡◌, ◌≢◌, ◌<◌, ℕ, ◌==◌, List, [], ◌∷◌, Option, Some, length, map, slice_get, if◌then◌else◌, ◌⊎◌}
use Rattle.std.specs.Option.{option_and_then}
use Rattle.route_choice.specs.declared.choices.Far.{Far}
use Rattle.route_choice.specs.declared.choices.Far.TheVariants.{Allowed}
use Rattle.route_choice.specs.declared.choices.Choice.{Choice}
use Rattle.route_choice.specs.Routes.{Offer}
use Rattle.net_items.specs.declared.lists.Row.{Row}
use Rattle.profile.specs.declared.tables.RowState.{RowState}
use Rattle.profile.specs.declared.tables.Table.{Table}
use Rattle.profile.specs.Status.{Source, mate_row, over_mate}
use Rattle.profile.specs.Whole.{heard_from, choice_heard, state_of, IsSettledTable}
use Rattle.transfer_state.specs.Kept.{KeptValue, opened_rows}
use Rattle.transfer_state.specs.declared.hearing.Heard.{Heard}
use Rattle.transfer_state.specs.declared.hearing.Heard.TheVariants.{Written, Kept}
use Rattle.transfer_state.specs.declared.complaints.Clause.{Clause}
use Rattle.transfer_state.specs.declared.complaints.Clause.TheVariants.{Points, Route, Status, Links, Messages}
use Rattle.transfer_state.specs.declared.complaints.Complaint.{Complaint}

-- the states of rows by choices in their places
abbrev pub chosen_states : Source → List Row → List Choice → List RowState
chosen_states src [] choices = []
chosen_states src (row ∷ rows) [] = []
chosen_states src (row ∷ rows) (c ∷ choices) = state_of src row c ∷ chosen_states src rows choices

-- the table by choices of all rows
abbrev pub chosen_table : Source → List Choice → Table
chosen_table src choices = record { dest = src.dest; rows = chosen_states src src.rows choices }

-- the table by what is kept of choices
abbrev pub kept_table : Source → List KeptValue → Table
kept_table src ks = chosen_table src (opened_rows src src.rows ks)

-- the table whose messages are heard: one that is written out, or the one by what is kept
abbrev pub heard_table : Source → Heard → Table
heard_table src (Written table) = table.now
heard_table src (Kept choices) = kept_table src choices.now

-- what a point y hears of its vias from a table: the destination is allowed
abbrev pub far_from : Source → Table → ℕ → ℕ → Far
far_from src table y z = if z == src.dest then Allowed else heard_from table y z

-- what a row hears of its mate from a table
abbrev pub mate_from : Source → Table → Row → Option Offer
mate_from src table row = option_and_then (λ mate. over_mate src row mate (heard_from table row.point mate.point)) (mate_row src row)

-- what a row makes of what it hears from a table
abbrev pub right_state : Source → Table → Row → RowState
right_state src table row = state_of src row (choice_heard src table row)

-- the table's destination and points are the plan's, in rising code
pub record HasPoints (src : Source) (table : Table) : Type 0 where
  pub dest : table.dest ≡ src.dest
  pub points : map (λ (state : RowState). state.point) table.rows ≡ map (λ (row : Row). row.point) src.rows

-- the table whose messages are heard has the plan's points
abbrev pub HasAllPoints : Source → Heard → Type 0
HasAllPoints src (Written table) = HasPoints src table.now
HasAllPoints src (Kept choices) = length choices.now ≡ length src.rows

-- class and members are the same
abbrev pub IsSameRoute : RowState → RowState → Type 0
IsSameRoute state right = (state.choice.class ≡ right.choice.class) × (state.choice.members ≡ right.choice.members)

-- the clause is the first in which a row's state differs from the right one
abbrev pub IsWrongIn : Clause → RowState → RowState → Type 0
IsWrongIn Points state right = ⊥
IsWrongIn Route state right = ¬ IsSameRoute state right
IsWrongIn Status state right = IsSameRoute state right × (state.choice.status ≢ right.choice.status)
IsWrongIn Links state right = (state.choice ≡ right.choice) × (state.links ≢ right.links)
IsWrongIn Messages state right = (state.choice ≡ right.choice) × (state.links ≡ right.links) × (state.messages ≢ right.messages)

-- the rows before a place are right
abbrev pub AreRightBefore : Source → Table → ℕ → Type 0
AreRightBefore src table i = (k : ℕ) (row : Row) (state : RowState) → k < i → slice_get src.rows k ≡ Some row → slice_get table.rows k ≡ Some state → state ≡ right_state src table row

-- the complaint is of the first wrong row, and of the first clause in which it is wrong
pub record IsFirstWrong (src : Source) (table : Table) (complaint : Complaint) : Type 0 where
  pub points : HasPoints src table
  pub position : ℕ
  pub row : Row
  pub state : RowState
  pub row_at : slice_get src.rows position ≡ Some row
  pub state_at : slice_get table.rows position ≡ Some state
  pub before : AreRightBefore src table position
  pub point : complaint.point ≡ row.point
  pub wrong : IsWrongIn complaint.clause state (right_state src table row)

-- the points are wrong, and the complaint says so of the destination
pub record HasWrongPoints (src : Source) (table : Table) (complaint : Complaint) : Type 0 where
  pub clause : complaint.clause ≡ Points
  pub point : complaint.point ≡ src.dest
  pub wrong : ¬ HasPoints src table

-- the first complaint of a table
abbrev pub IsFirstComplaint : Source → Table → Complaint → Type 0
IsFirstComplaint src table complaint = HasWrongPoints src table complaint ⊎ IsFirstWrong src table complaint

-- what is kept is the settled table: a choice for each row, and the table that they make is its own answer
pub record IsSettledKept (src : Source) (ks : List KeptValue) : Type 0 where
  pub together : length ks ≡ length src.rows
  pub settled : IsSettledTable src (kept_table src ks)

-- there isn't a choice for each row, and the complaint says so of the destination
pub record HasWrongCount (src : Source) (ks : List KeptValue) (complaint : Complaint) : Type 0 where
  pub clause : complaint.clause ≡ Points
  pub point : complaint.point ≡ src.dest
  pub wrong : length ks ≢ length src.rows

-- the first complaint about what is kept
abbrev pub IsFirstKept : Source → List KeptValue → Complaint → Type 0
IsFirstKept src ks complaint = HasWrongCount src ks complaint ⊎ ((length ks ≡ length src.rows) × IsFirstWrong src (kept_table src ks) complaint)
