-- The state of a desk, and what it stands for (own).
use Rattle.std.specs.Prelude.{ℕ, ◌+◌, ◌-◌, ◌||◌, Bool, false, List, [], ◌∷◌, Option, None, map, filter, take, length, replicate}
use Rattle.net_items.specs.declared.items.Plan.{Plan}
use Rattle.net_data.specs.declared.events.Event.{Event}
use Rattle.net_data.specs.Network.{Network}
use Rattle.net_data.specs.Edits.{changed, replay}
use Rattle.dirty_sets.specs.Touch.{touches}
use Rattle.dirty_sets.specs.Waiting.{Task}
use Rattle.net_versions.specs.Versions.{VersionValue, settled_version}
use Rattle.desk_core.specs.declared.posts.Last.{Last}

-- an open target: the number of the next version, and the destinations that wait for a result or are out
pub record OpenTarget : Type 0 where
  pub number : ℕ
  pub tasks : List Task

-- the published version, the accepted events after it, each collector's last accepted post, the open target, and how many more posts take no memory
pub record DeskValue : Type 0 where
  pub published : VersionValue
  pub pending : List Event
  pub lasts : List Last
  pub target : Option OpenTarget
  pub spare : ℕ

-- the number of accepted events
abbrev pub accepted : DeskValue → ℕ
accepted s = s.published.number + length s.pending

-- the accepted events after the published version up to a number
abbrev pub events_to : DeskValue → ℕ → List Event
events_to s number = take (number - s.published.number) s.pending

-- the network after the accepted events up to a number
abbrev pub net_at : DeskValue → ℕ → Network
net_at s number = replay s.published.network (events_to s number)

-- the network after all accepted events
abbrev pub net_now : DeskValue → Network
net_now s = replay s.published.network s.pending

-- one of the events touches the destination
abbrev pub touched_by : Network → List Event → ℕ → Bool
touched_by net [] x = false
touched_by net (e ∷ es) x = touches net e x || touched_by (changed net e) es x

-- the planned destinations of the network now that an event since the published version touches, in rising code
abbrev pub to_settle : DeskValue → List ℕ
to_settle s = filter (touched_by s.published.network s.pending) (map (λ (p : Plan). p.dest) (net_now s).plans)

-- the version that an open target becomes: its tables are those of its network from scratch
abbrev pub next_version : DeskValue → ℕ → VersionValue
next_version s number = settled_version number (events_to s number) (net_at s number)

-- nobody's post
abbrev pub no_post : Last
no_post = record { seq = 0; number = 0; event = None }

-- a desk over a network: version 0, with nothing accepted
abbrev pub new_desk : Network → DeskValue
new_desk net = record {
  published = settled_version 0 [] net;
  pending = [];
  lasts = replicate 256 no_post;
  target = None;
  spare = 0;
}
