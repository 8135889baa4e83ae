-- A published version: a numbered network, with what is kept of the settled routing of each of its planned destinations (own).
use Rattle.std.specs.Prelude.{◌≡◌, ◌<◌, ℕ, Bool, true, false, List, [], ◌∷◌, Option, length, map, slice_index_or}
use Rattle.std.specs.Option.{option_map}
use Rattle.net_items.specs.declared.items.Plan.{Plan}
use Rattle.net_items.specs.Keyed.{at_key}
use Rattle.net_data.specs.declared.events.Event.{Event}
use Rattle.net_data.specs.Network.{Network}
use Rattle.profile.specs.Whole.{scratch}
use Rattle.excerpts.specs.Excerpt.{ExcerptValue, content_at, excerpt_at, excerpt_in, network_source}
use Rattle.transfer_state.specs.Routing.{ChoiceTable, ChoicesValue, RoutingValue, choices_of, kept_table, routing_by, settled_choices, settled_routing}

-- its number, the events since the version before, its network, and what it keeps for each planned destination: the choice of each row
pub record VersionValue : Type 0 where
  pub number : ℕ
  pub batch : List Event
  pub network : Network
  pub tables : List ChoiceTable

-- the excerpts of all planned destinations, in rising code
abbrev pub excerpts : Network → List ExcerptValue
excerpts net = map (excerpt_in net) net.plans

-- what is kept of the choices towards all planned destinations, from scratch, in rising code
abbrev pub all_choices : Network → List ChoicesValue
all_choices net = map (λ (plan : Plan). settled_choices (excerpt_in net plan)) net.plans

-- the choices that plans of a network have by what is kept in their places
abbrev pub kept_tables : Network → List Plan → List ChoicesValue → List ChoiceTable
kept_tables net [] kept = []
kept_tables net (plan ∷ plans) [] = []
kept_tables net (plan ∷ plans) (choices ∷ kept) = kept_table (routing_by (excerpt_in net plan) choices) ∷ kept_tables net plans kept

-- the settled routing of a destination, if it has a plan
abbrev pub routing_at : Network → ℕ → Option RoutingValue
routing_at net dest = option_map settled_routing (excerpt_at net dest)

-- the choices of the tables of all planned destinations, from scratch, in rising code
abbrev pub settled_tables : Network → List ChoiceTable
settled_tables net = map (λ (plan : Plan). choices_of (scratch (network_source net plan))) net.plans

-- the table of a plan reads the same as in another network, unless it is told that its destination was touched
abbrev pub AreKept : Network → Network → List Bool → Type 0
AreKept net before touched =
    (i : ℕ) (d : Plan) → i < length net.plans → slice_index_or touched i true ≡ false
    → content_at net (slice_index_or net.plans i d).dest ≡ content_at before (slice_index_or net.plans i d).dest

-- what a version keeps of a destination, if it keeps something
abbrev pub table_kept : VersionValue → ℕ → Option ChoiceTable
table_kept version dest = at_key (λ (t : ChoiceTable). t.dest) dest version.tables

-- what a version keeps is what its own network gives from scratch
abbrev pub IsSettledVersion : VersionValue → Type 0
IsSettledVersion version = version.tables ≡ settled_tables version.network

-- the version of a number, some events and a network
abbrev pub settled_version : ℕ → List Event → Network → VersionValue
settled_version number batch net = record { number = number; batch = batch; network = net; tables = settled_tables net }
