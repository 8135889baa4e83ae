-- The ways of a row (own): what it is offered over each via, and over its mate.
use Rattle.std.specs.Prelude.{ℕ, ◌==◌, ◌+◌, ◌&&◌, Bool, if◌then◌else◌, List, [], ◌∷◌, ◌++◌, map}
use Rattle.std.specs.Option.{option_map_or}
use Rattle.net_items.specs.declared.items.LinkSet.{LinkSet}
use Rattle.net_items.specs.declared.lists.Row.{Row}
use Rattle.net_items.specs.Lookups.{set_between}
use Rattle.link_sets.specs.Availability.{connected}
use Rattle.route_choice.specs.declared.choices.Far.{Far}
use Rattle.route_choice.specs.declared.choices.Choice.{Choice}
use Rattle.profile.specs.Local.{is_member}
use Rattle.profile.specs.declared.tables.RowState.{RowState}
use Rattle.profile.specs.Status.{Source, mate_row, source_row, status}
use Rattle.transfer_state.specs.Routing.{direct_status}
use Rattle.answers.specs.declared.ways.Offer.{Offer}
use Rattle.answers.specs.declared.ways.Offer.TheVariants as offer
use Rattle.answers.specs.declared.ways.Way.{Way}

-- what point y is offered over an adjacent one with this status: that status if an available set joins them (Q.704 clause 3.2), else the set that is down, with that status beyond it
abbrev pub offer_over : Source → ℕ → ℕ → Far → Offer
offer_over src y z far =
    if connected src.sets y z then offer.Far far
    else option_map_or (λ (set : LinkSet). offer.Down set far) (set_between src.sets y z) offer.Unjoined

-- the way of point y over that one
abbrev pub way_over : Source → ℕ → ℕ → Far → ℕ → Bool → Way
way_over src y z far class used = record { class = class; over = z; offer = offer_over src y z far; used = used }

-- the way over a via of class k
abbrev pub via_way : Source → Row → Choice → ℕ → ℕ → Way
via_way src row c k z = way_over src row.point z (status src z) k (c.class == k && is_member z c)

-- those over the vias of the classes, which are numbered from k
abbrev pub class_ways : Source → Row → Choice → ℕ → List (List ℕ) → List Way
class_ways src row c k [] = []
class_ways src row c k (vias ∷ classes) = map (via_way src row c k) vias ++ class_ways src row c (k + 1) classes

-- that over the mate by its direct status, if the row may use it
abbrev pub mate_ways : Source → Row → Choice → List Way
mate_ways src row c = option_map_or (λ (mate : Row). way_over src row.point mate.point (direct_status src mate.point) 5 (c.class == 5) ∷ []) (mate_row src row) []

-- the ways of a row that uses this choice
abbrev pub ways_of : Source → Row → Choice → List Way
ways_of src row c = class_ways src row c 1 row.classes ++ mate_ways src row c

-- the same by the state of a row's point
abbrev pub ways_at : Source → RowState → List Way
ways_at src state = option_map_or (λ (row : Row). ways_of src row state.choice) (source_row src state.point) []
