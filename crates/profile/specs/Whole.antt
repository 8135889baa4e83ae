-- The whole table of a destination: choices, links (Q.704 clause 2.3) and messages (clauses 13.2 to 13.4), and the rule that a table obeys by its own messages.
use Rattle.std.specs.Prelude.{◌≡◌, ℕ, ◌==◌, ◌-◌, ◌&&◌, not, Bool, List, [], Option, None, is_some, if◌then◌else◌, map, find, filter, length, slice_index_or}
use Rattle.std.specs.List.{range_with_len}
use Rattle.std.specs.Option.{option_map, option_map_or, option_and_then}
use Rattle.route_choice.specs.declared.choices.Far.{Far}
use Rattle.route_choice.specs.declared.choices.Far.TheVariants.{Allowed, Prohibited}
use Rattle.net_items.specs.declared.lists.Row.{Row}
use Rattle.route_choice.specs.declared.choices.Choice.{Choice}
use Rattle.net_items.specs.declared.items.LinkSet.{LinkSet}
use Rattle.profile.specs.declared.tables.LinkRef.{LinkRef}
use Rattle.profile.specs.declared.tables.Message.{Message}
use Rattle.profile.specs.declared.tables.RowState.{RowState}
use Rattle.profile.specs.declared.tables.Table.{Table}
use Rattle.net_items.specs.Lookups.{set_between}
use Rattle.link_sets.specs.Availability.{connected}
use Rattle.link_sets.specs.Neighbours.{neighbours}
use Rattle.sls_share.specs.Share.{link_for, via_of, share_of}
use Rattle.route_choice.specs.Routes.{choose}
use Rattle.profile.specs.Status.{Source, offers, mate_row, over_mate, choice}
use Rattle.profile.specs.Local.{message, reading}

-- the configured number of vias of a class; the mate, class 5, counts as one
abbrev pub size_of : Row → ℕ → ℕ
size_of row class = if class == 5 then 1 else length (slice_index_or row.classes (class - 1) [])

-- the member in a place of a choice
abbrev pub member : Choice → ℕ → Option ℕ
member c position = slice_index_or c.members position None

-- the via that carries SLS s (own, after Q.704 clause 2.3)
abbrev pub carrier : Row → Choice → ℕ → Option ℕ
carrier row c s = member c (via_of (size_of row c.class) (is_some (member c 0)) (is_some (member c 1)) s)

-- the link between two points that carries share number t
abbrev pub link_between : List LinkSet → ℕ → ℕ → ℕ → Option LinkRef
link_between sets y z t =
    option_and_then (λ set. option_map (λ slc. record { id = set.id; slc = slc }) (link_for set.links t)) (set_between sets y z)

-- the link that carries SLS s
abbrev pub link_of : Source → Row → Choice → ℕ → Option LinkRef
link_of src row c s = option_and_then (λ z. link_between src.sets row.point z (share_of (size_of row c.class) s)) (carrier row c s)

-- the messages in force from a row's point, in rising code of the receiver: only transfer points send them, to each neighbour but the destination (own)
abbrev pub messages_of : Source → Row → Choice → List Message
messages_of src row c =
    if src.is_stp row.point
    then map (λ z. record { kind = message c z; to = z }) (filter (λ z. not (z == src.dest)) (neighbours src.sets row.point))
    else []

-- what the profile gives for a row with this choice
abbrev pub state_of : Source → Row → Choice → RowState
state_of src row c = record {
  point = row.point;
  choice = c;
  links = map (link_of src row c) (range_with_len 0 16);
  messages = messages_of src row c;
}

-- the table, from scratch
abbrev pub scratch : Source → Table
scratch src = record { dest = src.dest; rows = map (λ row. state_of src row (choice src row)) src.rows }

-- what a point hears from a list of messages: prohibited if there is none for it
abbrev pub heard_in : List Message → ℕ → Far
heard_in messages y = option_map_or (λ m. reading m.kind) (find (λ m. m.to == y) messages) Prohibited

-- what y hears of z from a table
abbrev pub heard_from : Table → ℕ → ℕ → Far
heard_from table y z = option_map_or (λ state. heard_in state.messages y) (find (λ state. state.point == z) table.rows) Prohibited

-- the choice that a row makes by what it hears from a table
abbrev pub choice_heard : Source → Table → Row → Choice
choice_heard src table row =
    choose src.tfr
    (offers src (λ z. if z == src.dest then Allowed else heard_from table row.point z) row)
    (option_and_then (λ mate. over_mate src row mate (heard_from table row.point mate.point)) (mate_row src row))

-- the table that the rows make by what they hear from a table
abbrev pub answer_to : Source → Table → Table
answer_to src table = record { dest = src.dest; rows = map (λ row. state_of src row (choice_heard src table row)) src.rows }

-- a table that is its own answer
abbrev pub IsSettledTable : Source → Table → Type 0
IsSettledTable src table = table ≡ answer_to src table
