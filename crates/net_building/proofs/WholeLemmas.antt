-- The events of a whole set or point are accepted, one after the other.
use Rattle.std.proofs.Common.{◌≡◌, ℕ, ◌<◌, Bool, true, false, not, cond, eqb, is_some, List, [], ◌∷◌, ◌++◌, map, filter, Option, Some, None, Ok, refl, sym, ap, ◌∙◌, arith}
use Rattle.std.specs.List.{AllByRecursion, flat_map}
use Rattle.std.specs.Option.{option_map_or}
use Rattle.std.proofs.lemmas.Option.{same_Some}
use Rattle.std.proofs.lemmas.Bool.{eq-eqb, eqb-true, ne_eqb}
use Rattle.link_state.specs.declared.marks.LinkChange.{LinkChange}
use Rattle.link_state.specs.Marks.{marks_after}
use Rattle.net_items.specs.declared.links.Link.{Link}
use Rattle.net_items.specs.declared.items.LinkSet.{LinkSet}
use Rattle.net_items.specs.Keyed.{IsRising, at_key, edit}
use Rattle.net_items.specs.Lookups.{set_at}
use Rattle.net_sets.specs.Sets.{has_link, is_end, with_change}
use Rattle.plan_rows.specs.Causes.{first, when}
use Rattle.net_data.specs.declared.events.Event.{Event}
use Rattle.net_data.specs.declared.events.Event.TheVariants as on
use Rattle.net_data.specs.declared.events.Refusal.TheVariants.{NoSet, NoLink}
use Rattle.net_data.specs.Network.{Network}
use Rattle.net_data.specs.Valid.{IsValid}
use Rattle.net_data.specs.Edits.{refusal_of, changed, apply_all}
use Rattle.net_building.specs.Wholes.{change_seen_at, changes_at, changes_in, whole_events}
use Rattle.net_building.specs.declared.wholes.Whole.{Whole}
use Rattle.net_building.specs.declared.wholes.Whole.TheVariants as whole
use Rattle.net_building.proofs.StepLemmas.{step}

-- ---- what a change of an element leaves as it was

-- a question about the element of a key, whose answer the change doesn't touch, has the same answer after it
asks_same : {X : Type 0} (key : X → ℕ) (f : X → X) (g : Option X → Bool) → ((x : X) → key (f x) ≡ key x) → ((x : X) → g (Some (f x)) ≡ g (Some x)) → (k n : ℕ) (xs : List X)
    → g (at_key key k (edit key n f xs)) ≡ g (at_key key k xs)
asks_same key f g keeps same k n [] = refl
asks_same {X} key f g keeps same k n (x ∷ xs) = go (eqb (key x) n) (asks_same key f g keeps same k n xs)
  where
    first_is : (b : Bool) (rest : Option X) → g (cond b (Some (f x)) rest) ≡ g (cond b (Some x) rest)
    first_is true rest = same x
    first_is false rest = refl

    later_is : (b : Bool) (one other : Option X) → g one ≡ g other → g (cond b (Some x) one) ≡ g (cond b (Some x) other)
    later_is true one other h = refl
    later_is false one other h = h

    go : (b : Bool) → g (at_key key k (edit key n f xs)) ≡ g (at_key key k xs) → g (at_key key k (cond b (f x ∷ xs) (x ∷ edit key n f xs))) ≡ g (at_key key k (x ∷ xs))
    go true more = ap (λ m. g (cond (eqb m k) (Some (f x)) (at_key key k xs))) (keeps x) ∙ first_is (eqb (key x) k) (at_key key k xs)
    go false more = later_is (eqb (key x) k) (at_key key k (edit key n f xs)) (at_key key k xs) more

-- a set has the same links after a change of one of them
has_link-same : (slc n : ℕ) (change : LinkChange) (s : LinkSet) → has_link n (with_change slc change s) ≡ has_link n s
has_link-same slc n change s = asks_same (λ (l : Link). l.slc) (λ (l : Link). record l { marks = marks_after change l.marks }) is_some (λ l. refl) (λ l. refl) n slc s.links

-- why the change of a link is refused doesn't depend on the change, and stays where another is made
link_refused-same : (net : Network) (id slc i s : ℕ) (change other : LinkChange) → refusal_of (changed net (on.Link id slc change)) (on.Link i s other) ≡ refusal_of net (on.Link i s other)
link_refused-same net id slc i s change other =
    let there = asks_same (λ (x : LinkSet). x.id) (with_change slc change) is_some (λ x. refl) (λ x. refl) i id net.sets in
    let has = asks_same (λ (x : LinkSet). x.id) (with_change slc change) (λ o. option_map_or (has_link s) o false) (λ x. refl) (λ x. has_link-same slc s change x) i id net.sets in
    λ j. first (when (not (there j)) NoSet ∷ when (not (has j)) NoLink ∷ [])

-- ---- changes of links that are there

-- the event changes a link that is there
pub record IsOfLink (net : Network) (event : Event) : Type 0 where
  pub id : ℕ
  pub slc : ℕ
  pub change : LinkChange
  pub is : event ≡ on.Link id slc change
  pub accepted : refusal_of net (on.Link id slc change) ≡ None

abbrev pub AreOfLinks : Network → List Event → Type 0
AreOfLinks net = AllByRecursion (IsOfLink net)

-- they are there after one of them is changed
still : (net : Network) (event : Event) (events : List Event) → IsOfLink net event → AreOfLinks net events → AreOfLinks (changed net event) events
still net event [] one all = tt
still net event (e ∷ es) one all = (
  record {
    id = all.0.id;
    slc = all.0.slc;
    change = all.0.change;
    is = all.0.is;
    accepted =
        ap (λ (x : Event). refusal_of (changed net x) (on.Link all.0.id all.0.slc all.0.change)) one.is
        ∙ link_refused-same net one.id one.slc all.0.id all.0.slc one.change all.0.change ∙ all.0.accepted;
  },
  still net event es one all.1,
)

-- so all are accepted
pub links_accepted : (net : Network) (events : List Event) → AreOfLinks net events → (new : Network) × (apply_all net events ≡ Ok new)
links_accepted net [] all = (net, refl)
links_accepted net (e ∷ es) all =
    let rest = links_accepted (changed net e) es (still net e es all.0 all.1) in
    (rest.0, step net (changed net e) e es (ap (refusal_of net) all.0.is ∙ all.0.accepted) refl ∙ rest.1)

-- ---- the events of whole sets

all_both : (net : Network) (es fs : List Event) → AreOfLinks net es → AreOfLinks net fs → AreOfLinks net (es ++ fs)
all_both net [] fs one other = other
all_both net (e ∷ es) fs one other = (one.0, all_both net es fs one.1 other)

-- each element of a list is found by its key, or one before it
found_some : {X : Type 0} (key : X → ℕ) (xs : List X) → AllByRecursion (λ x. is_some (at_key key (key x) xs) ≡ true) xs
found_some key [] = tt
found_some {X} key (x ∷ xs) = (ap (λ b. is_some (cond b (Some x) (at_key key (key x) xs))) (eq-eqb (key x) (key x) refl), go xs (found_some key xs))
  where
    there : (b : Bool) (rest : Option X) → is_some rest ≡ true → is_some (cond b (Some x) rest) ≡ true
    there true rest h = refl
    there false rest h = h

    go : (ys : List X) → AllByRecursion (λ y. is_some (at_key key (key y) xs) ≡ true) ys → AllByRecursion (λ y. is_some (at_key key (key y) (x ∷ xs)) ≡ true) ys
    go [] all = tt
    go (y ∷ ys) all = (there (eqb (key x) (key y)) (at_key key (key y) xs) all.0, go ys all.1)

-- and where the keys rise, it itself
found_own : {X : Type 0} (key : X → ℕ) (xs : List X) → IsRising key xs → AllByRecursion (λ x. at_key key (key x) xs ≡ Some x) xs
found_own key [] up = tt
found_own {X} key (x ∷ xs) up = (ap (λ b. cond b (Some x) (at_key key (key x) xs)) (eq-eqb (key x) (key x) refl), go xs up.0 (found_own key xs up.1))
  where
    go : (ys : List X) → AllByRecursion (λ y. key x < key y) ys → AllByRecursion (λ y. at_key key (key y) xs ≡ Some y) ys → AllByRecursion (λ y. at_key key (key y) (x ∷ xs) ≡ Some y) ys
    go [] low all = tt
    go (y ∷ ys) low all = (ap (λ b. cond b (Some x) (at_key key (key y) xs)) (ne_eqb (key x) (key y) (λ e. let less : key x < key y = low.0 in omega arith)) ∙ all.0, go ys low.1 all.1)

module _ (net : Network) (change : LinkChange) (s : LinkSet) (found : set_at net.sets s.id ≡ Some s) where
  -- the change of each of some links that the set has
  links_there : (links : List Link) → AllByRecursion (λ (l : Link). has_link l.slc s ≡ true) links → AreOfLinks net (map (λ (l : Link). on.Link s.id l.slc change) links)
  links_there [] all = tt
  links_there (l ∷ ls) all =
      (record { id = s.id; slc = l.slc; change = change; is = refl; accepted = accepted }, links_there ls all.1)
    where
      accepted : refusal_of net (on.Link s.id l.slc change) ≡ None
      accepted =
          (λ j. first (when (not (is_some (found j))) NoSet ∷ when (not (option_map_or (has_link l.slc) (found j) false)) NoLink ∷ []))
          ∙ ap (λ b. first (when false NoSet ∷ when (not b) NoLink ∷ [])) all.0

  pub changes_there : AreOfLinks net (changes_in change s)
  changes_there = links_there s.links (found_some (λ (l : Link). l.slc) s.links)

-- the change of each link of the sets that end at a point
point_there : (net : Network) (point : ℕ) (change : LinkChange) (sets : List LinkSet) → AllByRecursion (λ (s : LinkSet). set_at net.sets s.id ≡ Some s) sets
    → AreOfLinks net (flat_map (changes_at point change) (filter (is_end point) sets))
point_there net point change [] all = tt
point_there net point change (s ∷ ss) all = go (is_end point s) (point_there net point change ss all.1)
  where
    go : (b : Bool) → AreOfLinks net (flat_map (changes_at point change) (filter (is_end point) ss)) → AreOfLinks net (flat_map (changes_at point change) (cond b (s ∷ filter (is_end point) ss) (filter (is_end point) ss)))
    go true rest = all_both net (changes_at point change s) (flat_map (changes_at point change) (filter (is_end point) ss)) (changes_there net (change_seen_at point change s) s all.0) rest
    go false rest = rest

-- the set of an id has that id
found_id : (sets : List LinkSet) (id : ℕ) (s : LinkSet) → set_at sets id ≡ Some s → s.id ≡ id
found_id [] id s h = let none : None ≡ Some s = h in absurd (cc)
found_id (x ∷ xs) id s h = go (eqb x.id id) refl (found_id xs id s)
  where
    go : (b : Bool) → eqb x.id id ≡ b → (set_at xs id ≡ Some s → s.id ≡ id) → s.id ≡ id
    go true t rest =
        let here : Some x ≡ Some s = rw t at h in
        let same : x ≡ s = same_Some x s here in
        ap (λ (y : LinkSet). y.id) (sym same) ∙ eqb-true x.id id t
    go false f rest = let later : set_at xs id ≡ Some s = rw f at h in rest later

set_there : (net : Network) (change : LinkChange) (o : Option LinkSet) → ((s : LinkSet) → o ≡ Some s → set_at net.sets s.id ≡ Some s) → AreOfLinks net (option_map_or (changes_in change) o [])
set_there net change None found = tt
set_there net change (Some s) found = changes_there net change s (found s refl)

-- none of them is refused
pub whole_accepted : (net : Network) (w : Whole) → IsValid net → (new : Network) × (apply_all net (whole_events net w) ≡ Ok new)
whole_accepted net (whole.Set id change) valid =
    links_accepted net (whole_events net (whole.Set id change)) (set_there net change (set_at net.sets id) (λ s h. ap (set_at net.sets) (found_id net.sets id s h) ∙ h))
whole_accepted net (whole.Point point change) valid =
    links_accepted net (whole_events net (whole.Point point change)) (point_there net point change net.sets (found_own (λ (s : LinkSet). s.id) net.sets valid.sets_rise))
