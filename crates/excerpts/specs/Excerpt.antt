-- What the table of one destination reads of a network (own).
use Rattle.std.specs.Prelude.{◌≡◌, ℕ, Bool, false, List, [], Option, Some, None, Result, Err, MatchResult, All, map, filter, if◌then◌else◌}
use Rattle.std.specs.Option.{option_map, option_map_or}
use Rattle.net_items.specs.declared.items.Kind.{Kind}
use Rattle.net_items.specs.declared.items.Kind.TheVariants.{Sep}
use Rattle.net_items.specs.declared.items.Point.{Point}
use Rattle.net_items.specs.declared.items.LinkSet.{LinkSet}
use Rattle.net_items.specs.declared.items.Plan.{Plan}
use Rattle.net_items.specs.declared.lists.Row.{Row}
use Rattle.net_items.specs.Keyed.{IsRising}
use Rattle.net_items.specs.Lookups.{point_at, mate_of, plan_at, row_at, is_via}
use Rattle.net_data.specs.Network.{Network}
use Rattle.net_data.specs.Valid.{IsValid as IsValidNet}
use Rattle.profile.specs.Status.{Source, source_in}
use Rattle.profile.specs.declared.tables.Table.{Table}
use Rattle.profile.specs.Whole.{scratch}
use Rattle.profile.specs.Reads.{reads}
use Rattle.profile.specs.Valid.{IsValidSource, HasFewLinks, HasLinksInOrder}
use Rattle.excerpts.specs.declared.faults.ExcerptFault.{ExcerptFault}
use Rattle.excerpts.specs.declared.faults.ExcerptFault.TheVariants.{NoPlan, OutOfMemory}

-- what a table reads of a network: a plan, the points of its rows, the sets, and the transfer-restricted option
pub record Content : Type 0 where
  pub plan : Plan
  pub points : List Point
  pub sets : List LinkSet
  pub tfr : Bool

-- an excerpt: a network, and the plan whose table reads of it
pub record ExcerptValue : Type 0 where
  pub network : Network
  pub plan : Plan

-- the kind of a point
abbrev pub point_kind : List Point → ℕ → Kind
point_kind points c = option_map_or (λ (p : Point). p.kind) (point_at points c) Sep

-- what is read of a row's point: its kind, and its mate if the row has the flag
abbrev pub row_point : List Point → Row → Point
row_point points row = record { code = row.point; kind = point_kind points row.point; mate = if row.mate then mate_of points row.point else None }

-- the table of a plan reads the set, where these are the points of the network
abbrev pub is_read_by : List Point → Plan → LinkSet → Bool
is_read_by points plan = reads (source_in points [] plan false)

-- a network as the source of a plan
abbrev pub network_source : Network → Plan → Source
network_source net plan = source_in net.points net.sets plan net.tfr

-- the table of a destination from scratch, if it has a plan
abbrev pub table_at : Network → ℕ → Option Table
table_at net dest = option_map (λ plan. scratch (network_source net plan)) (plan_at net.plans dest)

-- an excerpt as the source of its plan
abbrev pub source_of : ExcerptValue → Source
source_of x = network_source x.network x.plan

-- what the table of a plan reads of a network
abbrev pub content_in : Network → Plan → Content
content_in net plan = record {
  plan = plan;
  points = map (row_point net.points) plan.rows;
  sets = filter (is_read_by net.points plan) net.sets;
  tfr = net.tfr;
}

-- what the table of an excerpt reads
abbrev pub content_of : ExcerptValue → Content
content_of x = content_in x.network x.plan

-- what is read as a source, alone
abbrev pub content_source : Content → Source
content_source c = source_in c.points c.sets c.plan c.tfr

-- what the table of a destination reads, if it has a plan
abbrev pub content_at : Network → ℕ → Option Content
content_at net dest = option_map (content_in net) (plan_at net.plans dest)

-- the excerpt of a plan
abbrev pub excerpt_in : Network → Plan → ExcerptValue
excerpt_in net plan = record { network = net; plan = plan }

-- the excerpt of a destination, if it has a plan
abbrev pub excerpt_at : Network → ℕ → Option ExcerptValue
excerpt_at net dest = option_map (excerpt_in net) (plan_at net.plans dest)

-- the answer to a request for an excerpt: none without a plan; out of memory comes last
abbrev pub IsExcerptAnswer : Option ExcerptValue → Result ExcerptValue ExcerptFault → Type 0
IsExcerptAnswer None result = result ≡ Err NoPlan
IsExcerptAnswer (Some x) result = MatchResult result (λ e. e ≡ x) (λ fault. fault ≡ OutOfMemory)

-- a point has a row that leads to another
abbrev pub leads : List Row → ℕ → ℕ → Bool
leads rows y z = option_map_or (λ (row : Row). is_via row z) (row_at rows y) false

-- what every excerpt keeps: the network is valid and has the plan, so it is a valid source of it; its sets have at most sixteen links in order, and its lists are in order
pub record IsRight (x : ExcerptValue) : Type 0 where
  pub network : IsValidNet x.network
  pub planned : plan_at x.network.plans x.plan.dest ≡ Some x.plan
  pub valid : IsValidSource (source_of x)
  pub few : All HasFewLinks x.network.sets
  pub ordered : All HasLinksInOrder x.network.sets
  pub points_rise : IsRising (λ (p : Point). p.code) x.network.points
  pub rows_rise : IsRising (λ (r : Row). r.point) x.plan.rows
