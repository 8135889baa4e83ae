-- Which links have to be restored for a status that is wanted (own, after Q.704 clauses 3.2 and 13.2 to 13.4).
use Rattle.std.specs.Prelude.{◌≡◌, ◌≢◌, ◌≤◌, ◌<◌, ℕ, zero, suc, ◌+◌, ◌==◌, ◌&&◌, ◌||◌, not, nat_lt, Bool, true, false, List, [], ◌∷◌, ◌++◌, All, Contains, length, map, take, slice_get, Option, Some, None, if◌then◌else◌}
use Rattle.std.specs.List.{count_by, list_any, sum_by}
use Rattle.std.specs.Option.{option_map, option_and_then}
use Rattle.link_state.specs.declared.marks.Marks.{Marks}
use Rattle.net_items.specs.declared.links.Link.{Link}
use Rattle.net_items.specs.declared.items.LinkSet.{LinkSet}
use Rattle.net_items.specs.declared.lists.Row.{Row}
use Rattle.net_items.specs.Lookups.{concat_vias, set_at, set_between}
use Rattle.link_sets.specs.Availability.{connected}
use Rattle.route_choice.specs.declared.choices.Far.{Far}
use Rattle.route_choice.specs.declared.choices.Far.TheVariants.{Allowed, Prohibited}
use Rattle.route_choice.specs.Routes.{same_far}
use Rattle.profile.specs.Status.{Source, source_row, source_rank, mate_row, status}
use Rattle.what_if.specs.declared.costs.Cost.{Cost}
use Rattle.what_if.specs.declared.mending.SetLink.{SetLink}
use Rattle.what_if.specs.declared.wanted.Wanted.{Wanted}
use Rattle.what_if.specs.declared.wanted.Wanted.TheVariants as want

-- ---- what is wanted

-- a status is one that is wanted: it isn't prohibited (Q.704 clause 13.2), or it is allowed (13.3)
abbrev pub meets : Wanted → Far → Bool
meets want.Reached far = not (same_far far Prohibited)
meets want.Allowed far = same_far far Allowed

-- no other class than the first and no mate leads to what is wanted: that is allowed, and over them a status is restricted (Q.704 clause 13.4)
abbrev pub is_strict : Source → Wanted → Bool
is_strict src want.Reached = false
is_strict src want.Allowed = src.tfr

-- the classes of vias of a row that lead to what is wanted
abbrev pub classes_wanted : Source → Wanted → Row → List (List ℕ)
classes_wanted src wanted row = if is_strict src wanted then take 1 row.classes else row.classes

-- these vias, class by class
abbrev pub vias_wanted : Source → Wanted → Row → List ℕ
vias_wanted src wanted row = concat_vias (classes_wanted src wanted row)

-- ---- what the restoring of links does

-- no mark: the link is available
abbrev pub no_marks : Marks
no_marks = record { failed = false; blocked_a = false; blocked_b = false; inhibited_a = false; inhibited_b = false }

-- a list names a link of the set of this id
abbrev pub names : List SetLink → ℕ → Link → Bool
names list id link = list_any (λ (l : SetLink). l.id == id && l.link.slc == link.slc) list

-- a link of the set of this id, without its marks if the list names it
abbrev pub restored_link : List SetLink → ℕ → Link → Link
restored_link list id link = if names list id link then record link { marks = no_marks } else link

-- a set whose named links are restored
abbrev pub restored_set : List SetLink → LinkSet → LinkSet
restored_set list set = record set { links = map (restored_link list set.id) set.links }

-- what the network gives about the destination once the named links are restored
abbrev pub restored : List SetLink → Source → Source
restored list src = record src { sets = map (restored_set list) src.sets }

-- once these links are restored the point's status is one that is wanted
abbrev pub Reaches : Source → Wanted → ℕ → List SetLink → Type 0
Reaches src wanted y list = meets wanted (status (restored list src) y) ≡ true

-- ---- what it takes to restore links

-- the marks of a link, five at most
abbrev pub mark_count : Marks → ℕ
mark_count m = (if m.failed then 1 else 0) + (if m.blocked_a then 1 else 0) + (if m.blocked_b then 1 else 0) + (if m.inhibited_a then 1 else 0) + (if m.inhibited_b then 1 else 0)

-- how many links are restored, how many of them have failed, so that each wants a repair, and how many marks they lose
abbrev pub cost : List SetLink → Cost
cost list = record {
  links = length list;
  repairs = count_by (λ (l : SetLink). l.link.marks.failed) list;
  marks = sum_by (λ (l : SetLink). mark_count l.link.marks) list;
}

-- what two lists take together
abbrev pub sum_of_costs : Cost → Cost → Cost
sum_of_costs one other = record { links = one.links + other.links; repairs = one.repairs + other.repairs; marks = one.marks + other.marks }

-- the first takes less: fewer links; with as many, fewer repairs; with as many of both, fewer marks
abbrev pub takes_less : Cost → Cost → Bool
takes_less one other =
    nat_lt one.links other.links
    || (one.links == other.links && (nat_lt one.repairs other.repairs || (one.repairs == other.repairs && nat_lt one.marks other.marks)))

-- a link of a set of the network, with the marks that it has there
pub record IsOf (src : Source) (l : SetLink) : Type 0 where
  pub set : LinkSet
  pub found : set_at src.sets l.id ≡ Some set
  pub has : Contains set.links l.link

-- each link is one of the network
abbrev pub AreOf : Source → List SetLink → Type 0
AreOf src list = All (IsOf src) list

-- restoring these links does it; no list that does it is shorter, and no list of links of the network that does it takes less
pub record IsLeast (src : Source) (wanted : Wanted) (y : ℕ) (list : List SetLink) : Type 0 where
  pub does : Reaches src wanted y list
  pub own : AreOf src list
  pub fewest : (other : List SetLink) → Reaches src wanted y other → length list ≤ length other
  pub least : (other : List SetLink) → AreOf src other → Reaches src wanted y other → takes_less (cost other) (cost list) ≡ false

-- the links whose restoring does it and takes least, or none if no restoring does it
abbrev pub IsMend : Source → Wanted → ℕ → Option (List SetLink) → Type 0
IsMend src wanted y None = (list : List SetLink) → Reaches src wanted y list → ⊥
IsMend src wanted y (Some list) = IsLeast src wanted y list

-- ---- which of them is told

-- the one that takes less; of two that take as much the first
abbrev pub cheaper : Option (List SetLink) → Option (List SetLink) → Option (List SetLink)
cheaper None other = other
cheaper (Some one) None = Some one
cheaper (Some one) (Some other) = if takes_less (cost other) (cost one) then Some other else Some one

-- the one that takes least; the first of those
abbrev pub least_of : List (Option (List SetLink)) → Option (List SetLink)
least_of [] = None
least_of (one ∷ others) = cheaper one (least_of others)

-- the link of the set of this id alone
abbrev pub alone : ℕ → Link → Option (List SetLink)
alone id link = Some (record { id = id; link = link } ∷ [])

-- the link of a set that takes least; the first of those
abbrev pub least_link : ℕ → List Link → Option (List SetLink)
least_link id links = least_of (map (alone id) links)

-- what has to be restored between two points: nothing if an available set joins them (Q.704 clause 3.2), else the link of the set that takes least
abbrev pub between : Source → ℕ → ℕ → Option (List SetLink)
between src y z = if connected src.sets y z then Some [] else option_and_then (λ (set : LinkSet). least_link set.id set.links) (set_between src.sets y z)

-- what has to be restored for a point to reach the destination over an adjacent one, of which this has to be
abbrev pub over : Source → ℕ → ℕ → Option (List SetLink) → Option (List SetLink)
over src y z rest = option_and_then (λ front. option_map (λ back. front ++ back) rest) (between src y z)

-- over the vias of a row, class by class, where `mend` tells what each via needs
abbrev pub over_vias : Source → Wanted → (ℕ → Option (List SetLink)) → Row → Option (List SetLink)
over_vias src wanted mend row = least_of (map (λ z. over src row.point z (mend z)) (vias_wanted src wanted row))

-- over the mate, if that leads to what is wanted and the row may use it, and the mate's vias
abbrev pub mend_over_mate : Source → Wanted → (ℕ → Option (List SetLink)) → Row → Option (List SetLink)
mend_over_mate src wanted mend row =
    if is_strict src wanted then None
    else option_and_then (λ (mate : Row). over src row.point mate.point (over_vias src wanted mend mate)) (mate_row src row)

-- what a row needs: the vias come before the mate
abbrev pub row_mend : Source → Wanted → (ℕ → Option (List SetLink)) → Row → Option (List SetLink)
row_mend src wanted mend row = cheaper (over_vias src wanted mend row) (mend_over_mate src wanted mend row)

-- what a point needs, where `mend` tells what those of lower rank need: nothing at the destination
abbrev pub mend_by : Source → Wanted → (ℕ → Option (List SetLink)) → ℕ → Option (List SetLink)
mend_by src wanted mend y = if y == src.dest then Some [] else option_and_then (row_mend src wanted mend) (source_row src y)

-- the same as far as it rests on n ranks
unfoldable pub mend_within : Source → Wanted → ℕ → ℕ → Option (List SetLink)
mend_within src wanted zero y = if y == src.dest then Some [] else None
mend_within src wanted (suc n) y = mend_by src wanted (mend_within src wanted n) y

-- the links that are told: a point of rank n rests on n ranks
unfoldable pub mend : Source → Wanted → ℕ → Option (List SetLink)
mend src wanted y = mend_within src wanted (source_rank src y) y

-- ---- while it is worked out, rank by rank

-- what a point needs stands in the place of its row, unless it is the destination
abbrev pub IsKnown : Source → Wanted → List (Option (List SetLink)) → ℕ → Type 0
IsKnown src wanted mends z = z ≢ src.dest → (i : ℕ) (row : Row) → slice_get src.rows i ≡ Some row → row.point ≡ z → slice_get mends i ≡ Some (mend src wanted z)

-- what the rows below a rank need stands in their places
abbrev pub KnowsMends : Source → Wanted → List (Option (List SetLink)) → ℕ → Type 0
KnowsMends src wanted mends n = (i : ℕ) (row : Row) → slice_get src.rows i ≡ Some row → row.rank < n → slice_get mends i ≡ Some (mend src wanted row.point)
