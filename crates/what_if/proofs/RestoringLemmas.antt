-- What the restoring of links does to the sets of a source.
use Rattle.std.proofs.Common.{◌≡◌, ℕ, List, [], ◌∷◌, Option, Some, None, All, map, cond, eqb, Bool, true, false, ◌&&◌, refl, sym, ap, ◌∙◌, inl, inr, ◌⊎◌, subst, IsSome}
use Rattle.std.specs.List.{Contains, list_any}
use Rattle.std.specs.Option.{option_map, option_map_or}
use Rattle.std.proofs.lemmas.Bool.{or_left, or_right, or_cases, true≢false}
use Rattle.std.proofs.lemmas.List.Elements.{All-cons, All-contains, All-contains_itself, All-head, All-nil, All-weaker}
use Rattle.std.proofs.lemmas.Option.{same_Some}
use Rattle.net_items.specs.declared.links.Link.{Link}
use Rattle.net_items.specs.declared.items.LinkSet.{LinkSet}
use Rattle.net_items.specs.declared.lists.Row.{Row}
use Rattle.net_items.specs.Lookups.{joins, set_between}
use Rattle.net_items.specs.Links.{link_available}
use Rattle.link_sets.specs.Availability.{connected, set_available}
use Rattle.link_sets.proofs.ListLemmas.{and_first}
use Rattle.profile.specs.Status.{Source}
use Rattle.profile.specs.Valid.{IsLower, HasMate, IsVia, IsValidRow, IsValidSource}
use Rattle.what_if.specs.declared.mending.SetLink.{SetLink}
use Rattle.what_if.specs.Mending.{names, no_marks, restored_link, restored_set, restored, cost, takes_less, cheaper, alone, least_link, between}
use Rattle.what_if.proofs.CostLemmas.{least_from}

-- a list names some link of the set of this id
abbrev pub names_of : List SetLink → ℕ → Bool
names_of list id = list_any (λ (l : SetLink). eqb l.id id) list

-- the set between two points once links are restored
pub set_between_restored : (list : List SetLink) (sets : List LinkSet) (y z : ℕ) → set_between (map (restored_set list) sets) y z ≡ option_map (restored_set list) (set_between sets y z)
set_between_restored list [] y z = refl
set_between_restored list (set ∷ sets) y z = go (joins y z set) (set_between_restored list sets y z)
  where
    go : (b : Bool) → set_between (map (restored_set list) sets) y z ≡ option_map (restored_set list) (set_between sets y z)
        → cond b (Some (restored_set list set)) (set_between (map (restored_set list) sets) y z) ≡ option_map (restored_set list) (cond b (Some set) (set_between sets y z))
    go true rest = refl
    go false rest = rest

-- a restored link is available if the list names it
pub restored_available : (list : List SetLink) (id : ℕ) (link : Link) → names list id link ≡ true → link_available (restored_link list id link) ≡ true
restored_available list id link named = rw named refl

-- an available link stays available
pub link_kept : (list : List SetLink) (id : ℕ) (link : Link) → link_available link ≡ true → link_available (restored_link list id link) ≡ true
link_kept list id link up = go (names list id link) up
  where
    go : (b : Bool) → link_available link ≡ true → link_available (cond b (record link { marks = no_marks }) link) ≡ true
    go true up = refl
    go false up = up

pub links_kept : (list : List SetLink) (id : ℕ) (links : List Link) → list_any link_available links ≡ true → list_any link_available (map (restored_link list id) links) ≡ true
links_kept list id [] up = up
links_kept list id (link ∷ links) up = elim (or_cases (link_available link) (list_any link_available links) up) [
  | inl e ↦ or_left (link_available (restored_link list id link)) (list_any link_available (map (restored_link list id) links)) (link_kept list id link e)
  | inr e ↦ or_right (link_available (restored_link list id link)) (list_any link_available (map (restored_link list id) links)) (links_kept list id links e)
]

-- points that an available set joins stay joined
pub connected_kept : (list : List SetLink) (sets : List LinkSet) (y z : ℕ) → connected sets y z ≡ true → connected (map (restored_set list) sets) y z ≡ true
connected_kept list sets y z up =
    let is = set_between_restored list sets y z in
    ap (λ (o : Option LinkSet). option_map_or set_available o false) is ∙ go (set_between sets y z) up
  where
    go : (o : Option LinkSet) → option_map_or set_available o false ≡ true → option_map_or set_available (option_map (restored_set list) o) false ≡ true
    go None up = up
    go (Some set) up = links_kept list set.id set.links up

-- a link that is available once links are restored was so before, or is named
pub link_was : (list : List SetLink) (id : ℕ) (link : Link) → link_available (restored_link list id link) ≡ true → (link_available link ≡ true) ⊎ (names list id link ≡ true)
link_was list id link up = go (names list id link) refl
  where
    go : (b : Bool) → names list id link ≡ b → (link_available link ≡ true) ⊎ (names list id link ≡ true)
    go true e = inr e
    go false e = inl (rw e at up)

-- who names a link of a set names some link of it
pub named_of : (list : List SetLink) (id : ℕ) (link : Link) → names list id link ≡ true → names_of list id ≡ true
named_of [] id link e = e
named_of (l ∷ list) id link e = elim (or_cases (eqb l.id id && eqb l.link.slc link.slc) (names list id link) e) [
  | inl here ↦ or_left (eqb l.id id) (names_of list id) (and_first (eqb l.id id) (eqb l.link.slc link.slc) here)
  | inr later ↦ or_right (eqb l.id id) (names_of list id) (named_of list id link later)
]

-- some link of a set that has links is told
least_there : (id : ℕ) (link : Link) (links : List Link) → (told : List SetLink) × (least_link id (link ∷ links) ≡ Some told)
least_there id link links = go (least_link id links)
  where
    go : (o : Option (List SetLink)) → (told : List SetLink) × (cheaper (alone id link) o ≡ Some told)
    go None = (record { id = id; link = link } ∷ [], refl)
    go (Some other) = by (takes_less (cost other) (cost (record { id = id; link = link } ∷ []))) refl
      where
        by : (b : Bool) → takes_less (cost other) (cost (record { id = id; link = link } ∷ [])) ≡ b → (told : List SetLink) × (cheaper (alone id link) (Some other) ≡ Some told)
        by true t = (other, rw t refl)
        by false f = (record { id = id; link = link } ∷ [], rw f refl)

-- a set that is available once links are restored was so before, or a link of it is named
pub links_were : (list : List SetLink) (id : ℕ) (links : List Link) → list_any link_available (map (restored_link list id) links) ≡ true
    → (list_any link_available links ≡ true) ⊎ ((names_of list id ≡ true) × ((told : List SetLink) × (least_link id links ≡ Some told)))
links_were list id [] up = inl up
links_were list id (link ∷ links) up = elim (or_cases (link_available (restored_link list id link)) (list_any link_available (map (restored_link list id) links)) up) [
  | inl here ↦ elim (link_was list id link here) [
    | inl was ↦ inl (or_left (link_available link) (list_any link_available links) was)
    | inr named ↦ inr (named_of list id link named, least_there id link links)
  ]
  | inr later ↦ elim (links_were list id links later) [
    | inl was ↦ inl (or_right (link_available link) (list_any link_available links) was)
    | inr named ↦ inr (named.0, least_there id link links)
  ]
]

-- what stands between two points that are joined once links are restored: nothing, or a link of a set of which the list names one
pub record IsOpened (src : Source) (list : List SetLink) (y z : ℕ) : Type 0 where
  pub set : LinkSet
  pub found : set_between src.sets y z ≡ Some set
  pub named : names_of list set.id ≡ true
  pub told : List SetLink
  pub least : least_link set.id set.links ≡ Some told
  pub needed : between src y z ≡ Some told

pub opened_cases : (src : Source) (list : List SetLink) (y z : ℕ) → connected (restored list src).sets y z ≡ true → (between src y z ≡ Some []) ⊎ IsOpened src list y z
opened_cases src list y z up = go (connected src.sets y z) refl
  where
    -- the set that isn't available itself
    down : connected src.sets y z ≡ false → (o : Option LinkSet) → set_between src.sets y z ≡ o → option_map_or set_available (option_map (restored_set list) o) false ≡ true → IsOpened src list y z
    down shut None e up = let no : false ≡ true = up in absurd (true≢false (sym no))
    down shut (Some set) e up = elim (links_were list set.id set.links up) [
      | inl was ↦ let yes : connected src.sets y z ≡ true = rw e was in absurd (true≢false (sym yes ∙ shut))
      | inr named ↦ record {
        set = set;
        found = e;
        named = named.0;
        told = named.1.0;
        least = named.1.1;
        needed = rw (shut, e) named.1.1;
      }
    ]

    go : (b : Bool) → connected src.sets y z ≡ b → (between src y z ≡ Some []) ⊎ IsOpened src list y z
    go true e = inl (rw e refl)
    go false e =
        let is = set_between_restored list src.sets y z in
        inr (down e (set_between src.sets y z) refl (sym (ap (λ (o : Option LinkSet). option_map_or set_available o false) is) ∙ up))

-- a link of the set between two points, alone
pub record IsLinked (src : Source) (y z : ℕ) (front : List SetLink) : Type 0 where
  pub set : LinkSet
  pub found : set_between src.sets y z ≡ Some set
  pub link : Link
  pub has : Contains set.links link
  pub is : record { id = set.id; link = link } ∷ [] ≡ front

-- the link that is told of a set is one of it
pub least_link_is : (id : ℕ) (links : List Link) (told : List SetLink) → least_link id links ≡ Some told → (link : Link) × Contains links link × (record { id = id; link = link } ∷ [] ≡ told)
least_link_is id links told e =
    let from = least_from (alone id) (Contains links) links told (All-contains_itself links) e in
    (from.0, from.1, same_Some (record { id = id; link = from.0 } ∷ []) told from.2)

-- nothing stands between two points that are joined, and else a link
pub between_cases : (src : Source) (y z : ℕ) (front : List SetLink) → between src y z ≡ Some front → ((connected src.sets y z ≡ true) × ([] ≡ front)) ⊎ IsLinked src y z front
between_cases src y z front e = go (connected src.sets y z) refl (set_between src.sets y z) refl
  where
    go : (b : Bool) → connected src.sets y z ≡ b → (o : Option LinkSet) → set_between src.sets y z ≡ o → ((connected src.sets y z ≡ true) × ([] ≡ front)) ⊎ IsLinked src y z front
    go true up o f = inl (up, same_Some [] front (rw up at e))
    go false down None f = let none : None ≡ Some front = rw (down, f) at e in cc
    go false down (Some set) f =
        let told = least_link_is set.id set.links front (rw (down, f) at e) in
        inr (record {
          set = set;
          found = f;
          link = told.0;
          has = told.1;
          is = told.2;
        })

-- a set with a link that is named is available once the list is restored
links_open : (list : List SetLink) (id : ℕ) (links : List Link) → All (λ link. names list id link ≡ true → list_any link_available (map (restored_link list id) links) ≡ true) links
links_open list id [] = All-nil (λ link. names list id link ≡ true → false ≡ true)
links_open list id (x ∷ links) =
    All-cons (λ link. names list id link ≡ true → list_any link_available (map (restored_link list id) (x ∷ links)) ≡ true) x links
    (λ named. or_left (link_available (restored_link list id x)) (list_any link_available (map (restored_link list id) links)) (restored_available list id x named))
    (All-weaker (λ link. names list id link ≡ true → list_any link_available (map (restored_link list id) links) ≡ true)
    (λ link. names list id link ≡ true → list_any link_available (map (restored_link list id) (x ∷ links)) ≡ true)
    (λ link opens named. or_right (link_available (restored_link list id x)) (list_any link_available (map (restored_link list id) links)) (opens named)) links (links_open list id links))

-- where all that stands between two points is named, they are joined once the list is restored
pub between_opens : (src : Source) (list : List SetLink) (y z : ℕ) (front : List SetLink) → between src y z ≡ Some front → All (λ (l : SetLink). names list l.id l.link ≡ true) front → connected (restored list src).sets y z ≡ true
between_opens src list y z front is named = elim (between_cases src y z front is) [
  | inl up ↦ connected_kept list src.sets y z up.0
  | inr w ↦
      let all : All (λ (l : SetLink). names list l.id l.link ≡ true) (record { id = w.set.id; link = w.link } ∷ []) = subst (All (λ (l : SetLink). names list l.id l.link ≡ true)) (sym w.is) named in
      let open_set : list_any link_available (map (restored_link list w.set.id) w.set.links) ≡ true =
      All-contains (λ link. names list w.set.id link ≡ true → list_any link_available (map (restored_link list w.set.id) w.set.links) ≡ true) w.set.links w.link
      (links_open list w.set.id w.set.links) w.has (All-head (λ (l : SetLink). names list l.id l.link ≡ true) (record { id = w.set.id; link = w.link }) [] all) in
      ap (λ (o : Option LinkSet). option_map_or set_available o false) (set_between_restored list src.sets y z ∙ ap (option_map (restored_set list)) w.found) ∙ open_set
]

-- a set that is there stays there
some_restored : (list : List SetLink) (sets : List LinkSet) (y z : ℕ) → IsSome (set_between sets y z) → IsSome (set_between (map (restored_set list) sets) y z)
some_restored list sets y z there = subst IsSome (sym (set_between_restored list sets y z)) (go (set_between sets y z) there)
  where
    go : (o : Option LinkSet) → IsSome o → IsSome (option_map (restored_set list) o)
    go None there = there
    go (Some set) there = refl

-- ---- a valid source stays valid

module _ (list : List SetLink) (src : Source) where
  lower_restored : (row : Row) (z : ℕ) → IsLower src row z → IsLower (restored list src) row z
  lower_restored row z low = record { transfers = low.transfers; below = low.below; planned = low.planned; lower = low.lower }

  via_restored : (row : Row) (z : ℕ) → IsVia src row z → IsVia (restored list src) row z
  via_restored row z via = record {
    joined = some_restored list src.sets row.point z via.joined;
    leads = elim via.leads [
      | inl e ↦ inl e
      | inr low ↦ inr (lower_restored row z low)
    ];
    not_mate = via.not_mate;
  }

  mate_restored : (row : Row) → HasMate src row → HasMate (restored list src) row
  mate_restored row has = record {
    transfers = has.transfers;
    mate = has.mate;
    paired = has.paired;
    planned = has.planned;
    same_rank = has.same_rank;
    joined = some_restored list src.sets row.point has.mate.point has.joined;
  }

  row_restored : (row : Row) → IsValidRow src row → IsValidRow (restored list src) row
  row_restored row ok = record {
    apart = ok.apart;
    coded = ok.coded;
    ranked = ok.ranked;
    topped = ok.topped;
    vias = All-weaker (All (IsVia src row)) (All (IsVia (restored list src) row)) (λ vias each. All-weaker (IsVia src row) (IsVia (restored list src) row) (via_restored row) vias each) row.classes ok.vias;
    flagged = λ t. mate_restored row (ok.flagged t);
    few = ok.few;
    small = ok.small;
    led = ok.led;
  }

  pub restored_valid : IsValidSource src → IsValidSource (restored list src)
  restored_valid valid = record {
    rows = All-weaker (IsValidRow src) (IsValidRow (restored list src)) row_restored src.rows valid.rows;
    once = valid.once;
    mates = valid.mates;
    mates_transfer = valid.mates_transfer;
  }
