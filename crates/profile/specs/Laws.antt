-- The laws of the profile, each of every valid source.
use Rattle.std.specs.Prelude.{◌≡◌, ◌≢◌, ◌↔◌, ◌<◌, IsSome, ◌++◌, All, ℕ, true, false, List, Some}
use Rattle.std.specs.List.{list_any}
use Rattle.net_items.specs.declared.items.LinkSet.{LinkSet}
use Rattle.route_choice.specs.declared.choices.Far.{Far}
use Rattle.route_choice.specs.declared.choices.Far.TheVariants.{Prohibited}
use Rattle.net_items.specs.declared.lists.Row.{Row}
use Rattle.profile.specs.declared.tables.Table.{Table}
use Rattle.profile.specs.Status.{Source, source_row, status_by, status, choice}
use Rattle.profile.specs.Valid.{IsValidSource, HasFewLinks}
use Rattle.profile.specs.Traces.{trace_of, IsTrace}
use Rattle.profile.specs.Walk.{Walk}
use Rattle.profile.specs.Reads.{reads, excerpt_of, with_sets}
use Rattle.profile.specs.Whole.{link_of, scratch, IsSettledTable}

-- a status is what the rule gives from the statuses
abbrev pub StatusesObey : Type 0
StatusesObey = (src : Source) → IsValidSource src → (y : ℕ) → status src y ≡ status_by src (status src) y

-- nothing else obeys the rule
abbrev pub StatusesAlone : Type 0
StatusesAlone =
    (src : Source) → IsValidSource src → (far : ℕ → Far) → ((y : ℕ) → far y ≡ status_by src far y)
    → (y : ℕ) → far y ≡ status src y

-- a status isn't prohibited exactly if a walk leads to the destination
abbrev pub WalksReach : Type 0
WalksReach = (src : Source) → IsValidSource src → (y : ℕ) → (status src y ≢ Prohibited) ↔ Walk src true y

-- no two mates use each other
abbrev pub MatesStayApart : Type 0
MatesStayApart =
    (src : Source) → IsValidSource src → (row mate : Row) → source_row src row.point ≡ Some row → source_row src mate.point ≡ Some mate
    → src.mate_of row.point ≡ Some mate.point → (choice src row).class ≡ 5 → (choice src mate).class ≢ 5

-- a table is its own answer exactly if it is the table from scratch
abbrev pub TablesCertify : Type 0
TablesCertify = (src : Source) → IsValidSource src → (table : Table) → IsSettledTable src table ↔ (table ≡ scratch src)

-- the excerpt of a valid source is valid, and gives the same table
abbrev pub ExcerptsGiveTables : Type 0
ExcerptsGiveTables = (src : Source) → IsValidSource src → IsValidSource (excerpt_of src) × (scratch (excerpt_of src) ≡ scratch src)

-- sets that a table doesn't read, changed, added or removed, leave the excerpt as it is
abbrev pub ExcerptsKeep : Type 0
ExcerptsKeep =
    (src : Source) (front old new back : List LinkSet) → src.sets ≡ front ++ old ++ back → list_any (reads src) old ≡ false → list_any (reads src) new ≡ false
    → excerpt_of (with_sets src (front ++ new ++ back)) ≡ excerpt_of src

-- a trace stops exactly if the status is prohibited, and else leads to the destination in at most twice the rank of hops
abbrev pub TracesReach : Type 0
TracesReach = (src : Source) → IsValidSource src → All HasFewLinks src.sets → (y s : ℕ) → s < 16 → IsTrace src y (trace_of src y s)

-- each SLS of a point that isn't prohibited has a link
abbrev pub LinksServe : Type 0
LinksServe =
    (src : Source) → IsValidSource src → All HasFewLinks src.sets → (row : Row) → source_row src row.point ≡ Some row → status src row.point ≢ Prohibited
    → (s : ℕ) → s < 16 → IsSome (link_of src row (choice src row) s)
