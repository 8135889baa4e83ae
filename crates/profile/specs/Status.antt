-- The status and the choice of each row of one plan, by recursion on the rank (own, after Q.704 clauses 13.2 to 13.4).
use Rattle.std.specs.Prelude.{ℕ, zero, suc, ◌==◌, Bool, List, Option, Some, None, if◌then◌else◌, map}
use Rattle.std.specs.Option.{option_map_or, option_and_then}
use Rattle.net_items.specs.declared.items.Point.{Point}
use Rattle.net_items.specs.declared.items.LinkSet.{LinkSet}
use Rattle.net_items.specs.declared.items.Plan.{Plan}
use Rattle.net_items.specs.Lookups.{row_at, is_stp as is_transfer_point, mate_of as mate_among}
use Rattle.route_choice.specs.declared.choices.Far.{Far}
use Rattle.route_choice.specs.declared.choices.Far.TheVariants.{Allowed, Prohibited}
use Rattle.net_items.specs.declared.lists.Row.{Row}
use Rattle.route_choice.specs.declared.choices.Choice.{Choice}
use Rattle.link_sets.specs.Availability.{connected}
use Rattle.route_choice.specs.Routes.{Offer, direct, choose}

-- what a network or an excerpt gives about one destination
pub record Source : Type 0 where
  pub dest : ℕ
  pub rows : List Row
  pub sets : List LinkSet
  pub is_stp : ℕ → Bool
  pub mate_of : ℕ → Option ℕ
  pub tfr : Bool

-- what a network, or an excerpt of it, gives about the destination of a plan
abbrev pub source_in : List Point → List LinkSet → Plan → Bool → Source
source_in points sets plan tfr = record {
  dest = plan.dest;
  rows = plan.rows;
  sets = sets;
  is_stp = is_transfer_point points;
  mate_of = mate_among points;
  tfr = tfr;
}

-- the row of a point
abbrev pub source_row : Source → ℕ → Option Row
source_row src y = row_at src.rows y

-- the rank of a point, 0 if it has no row
abbrev pub source_rank : Source → ℕ → ℕ
source_rank src y = option_map_or (λ row. row.rank) (source_row src y) 0

-- what a point is offered over a via, where `far` tells the far statuses: prohibited if no available set joins them (Q.704 clause 3.2)
abbrev pub offer : Source → (ℕ → Far) → ℕ → ℕ → Offer
offer src far y z = record { via = z; far = if connected src.sets y z then far z else Prohibited }

-- what a row is offered over its vias, class by class
abbrev pub offers : Source → (ℕ → Far) → Row → List (List Offer)
offers src far row = map (map (offer src far row.point)) row.classes

-- the row of the mate, where the row may use it (own)
abbrev pub mate_row : Source → Row → Option Row
mate_row src row = if row.mate then option_and_then (source_row src) (src.mate_of row.point) else None

-- what a mate with this direct status offers, where the set between is available
abbrev pub over_mate : Source → Row → Row → Far → Option Offer
over_mate src row mate status =
    if connected src.sets row.point mate.point then Some (record { via = mate.point; far = status }) else None

-- what the mate offers: its direct status
abbrev pub mate_offer : Source → (ℕ → Far) → Row → Option Offer
mate_offer src far row =
    option_and_then (λ mate. over_mate src row mate (direct src.tfr (offers src far mate))) (mate_row src row)

-- the choice of a row, where `far` tells the statuses of lower rank
abbrev pub choice_by : Source → (ℕ → Far) → Row → Choice
choice_by src far row = choose src.tfr (offers src far row) (mate_offer src far row)

-- the status of a point, where `far` tells those of lower rank: allowed at the destination, prohibited if there is no row
abbrev pub status_by : Source → (ℕ → Far) → ℕ → Far
status_by src far y =
    if y == src.dest then Allowed else option_map_or (λ row. (choice_by src far row).status) (source_row src y) Prohibited

-- the status as far as it rests on n ranks
unfoldable pub status_within : Source → ℕ → ℕ → Far
status_within src zero y = if y == src.dest then Allowed else Prohibited
status_within src (suc n) y = status_by src (status_within src n) y

-- the status of a point: a point of rank n rests on n ranks
unfoldable pub status : Source → ℕ → Far
status src y = status_within src (source_rank src y) y

-- the choice of a row
abbrev pub choice : Source → Row → Choice
choice src row = choice_by src (status src) row
