-- What a table reads of a network (own).
use Rattle.std.specs.Prelude.{◌≡◌, ℕ, ◌&&◌, ◌||◌, Bool, true, false, List, Some, None, IsTrue, is_some, if◌then◌else◌, filter}
use Rattle.std.specs.Option.{option_map_or}
use Rattle.std.specs.List.{list_any}
use Rattle.net_items.specs.declared.lists.Row.{Row}
use Rattle.net_items.specs.declared.items.LinkSet.{LinkSet}
use Rattle.link_sets.specs.Availability.{connected}
use Rattle.net_items.specs.Lookups.{joins}
use Rattle.profile.specs.Status.{Source, source_row}

-- a transfer point with a row
abbrev pub is_planned_transfer : Source → ℕ → Bool
is_planned_transfer src y = src.is_stp y && is_some (source_row src y)

-- the set has an end that is a transfer point with a row, or joins a row's point with one of its vias
abbrev pub reads : Source → LinkSet → Bool
reads src set =
    (is_planned_transfer src set.a || is_planned_transfer src set.b)
    || list_any (λ row. list_any (λ vias. list_any (λ via. joins row.point via set) vias) row.classes) src.rows

-- a point has a row with the flag
abbrev pub is_flagged_at : Source → ℕ → Bool
is_flagged_at src y = option_map_or (λ row. row.mate) (source_row src y) false

-- the excerpt of a source: the plan, the kinds of its row points, the mates of its flagged rows, and the sets that its table reads
abbrev pub excerpt_of : Source → Source
excerpt_of src = record {
  dest = src.dest;
  rows = src.rows;
  sets = filter (reads src) src.sets;
  is_stp = is_planned_transfer src;
  mate_of = λ y. if is_flagged_at src y then src.mate_of y else None;
  tfr = src.tfr;
}

-- the source with other sets
abbrev pub with_sets : Source → List LinkSet → Source
with_sets src sets = record { dest = src.dest; rows = src.rows; sets = sets; is_stp = src.is_stp; mate_of = src.mate_of; tfr = src.tfr }
