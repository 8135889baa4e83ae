-- The settled routing of an excerpt, row by row.
use Rattle.std.specs.Prelude.{◌≡◌, ℕ, Bool, List, [], ◌∷◌, Option, Some, map}
use Rattle.std.specs.Option.{option_map, option_map_or, option_and_then}
use Rattle.net_items.specs.declared.lists.Row.{Row}
use Rattle.route_choice.specs.declared.choices.Choice.{Choice}
use Rattle.route_choice.specs.declared.choices.Far.{Far}
use Rattle.route_choice.specs.declared.choices.Far.TheVariants.{Prohibited}
use Rattle.route_choice.specs.Routes.{direct}
use Rattle.profile.specs.declared.tables.RowState.{RowState}
use Rattle.profile.specs.declared.tables.Table.{Table}
use Rattle.profile.specs.declared.hops.Hop.{Hop}
use Rattle.net_items.specs.Lookups.{row_at}
use Rattle.profile.specs.Valid.{IsSmall}
use Rattle.profile.specs.Status.{Source, source_row, offers, choice, status}
use Rattle.profile.specs.Whole.{scratch, carrier, link_of, state_of}
use Rattle.excerpts.specs.Excerpt.{ExcerptValue, source_of}
use Rattle.transfer_state.specs.Kept.{KeptValue, kept, opened_rows}
use Rattle.transfer_state.specs.Promises.{state_in}

-- what the settled table of an excerpt, from scratch, has for a point
abbrev pub state_at : ExcerptValue → ℕ → Option RowState
state_at x y = state_in (scratch (source_of x)) y

-- the direct status of a point, which it offers its mate: by what its vias offer, prohibited if it has no row
abbrev pub direct_status : Source → ℕ → Far
direct_status src y = option_map_or (λ row. direct src.tfr (offers src (status src) row)) (source_row src y) Prohibited

-- the link that a signalling link selection takes from a row's point by a choice, with both its ends
abbrev pub hop_by : Source → Row → Choice → ℕ → Option Hop
hop_by src row c s =
    option_and_then (λ z. option_map (λ link. record { from = row.point; link = link; to = z }) (link_of src row c s)) (carrier row c s)

-- what is kept of the choices of the rows of an excerpt's plan, in their places
abbrev pub IsChosen : ExcerptValue → List KeptValue → Type 0
IsChosen x choices = choices ≡ map (λ row. kept (choice (source_of x) row)) x.plan.rows

-- the destination of a plan, and what is kept of the choices of its rows, in their places
pub record ChoicesValue : Type 0 where
  pub dest : ℕ
  pub kept : List KeptValue

-- those of an excerpt, from scratch
abbrev pub settled_choices : ExcerptValue → ChoicesValue
settled_choices x = record { dest = x.plan.dest; kept = map (λ row. kept (choice (source_of x) row)) x.plan.rows }

-- the statuses of choices, in their places
abbrev pub statuses_of : List Choice → List Far
statuses_of choices = map (λ (c : Choice). c.status) choices

-- a settled routing: its excerpt, and the choices by what it keeps, in the places of the plan's rows
pub record RoutingValue : Type 0 where
  pub excerpt : ExcerptValue
  pub choices : List Choice

-- the routing of an excerpt by what is kept of its choices
abbrev pub routing_by : ExcerptValue → ChoicesValue → RoutingValue
routing_by x choices = record { excerpt = x; choices = opened_rows (source_of x) x.plan.rows choices.kept }

-- the routing of an excerpt, from scratch
abbrev pub settled_routing : ExcerptValue → RoutingValue
settled_routing x = record { excerpt = x; choices = map (choice (source_of x)) x.plan.rows }

-- the excerpt that a routing is of, if there is one
abbrev pub routed_excerpt : Option RoutingValue → Option ExcerptValue
routed_excerpt = option_map (λ (r : RoutingValue). r.excerpt)

-- what a point uses: class, members and status
pub record ChoiceRow : Type 0 where
  pub point : ℕ
  pub choice : Choice

-- what the points of a plan use towards its destination: a table without the links and messages that follow
pub record ChoiceTable : Type 0 where
  pub dest : ℕ
  pub rows : List ChoiceRow

-- rows with the choices that stand in their places
abbrev pub choice_rows : List Row → List Choice → List ChoiceRow
choice_rows [] choices = []
choice_rows (row ∷ rows) [] = []
choice_rows (row ∷ rows) (c ∷ choices) = record { point = row.point; choice = c } ∷ choice_rows rows choices

-- what a routing keeps
abbrev pub kept_table : RoutingValue → ChoiceTable
kept_table r = record { dest = r.excerpt.plan.dest; rows = choice_rows r.excerpt.plan.rows r.choices }

-- the choices of a table
abbrev pub choices_of : Table → ChoiceTable
choices_of table = record { dest = table.dest; rows = map (λ (s : RowState). record { point = s.point; choice = s.choice }) table.rows }

-- a place for the choices of an excerpt, and whether these have come
pub record RoutingSlotValue : Type 0 where
  pub excerpt : ExcerptValue
  pub settled : Bool

-- a row of the plan, small, with its choice, at a point
pub record IsFoundRow (x : ExcerptValue) (y : ℕ) (row : Row) (c : Choice) : Type 0 where
  pub there : row_at x.plan.rows y ≡ Some row
  pub chosen : c ≡ choice (source_of x) row
  pub state : state_at x y ≡ Some (state_of (source_of x) row c)
  pub small : IsSmall row
