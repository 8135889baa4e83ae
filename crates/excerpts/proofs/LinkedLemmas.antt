-- What events of links leave as it was: which sets they name, and where a set turned.
use Rattle.std.proofs.Common.{◌≡◌, ◌≢◌, ℕ, ◌<◌, Bool, true, false, ◌||◌, eqb, Some, None, List, [], ◌∷◌, refl, sym, ap, ◌∙◌, arith, inl, inr, subst, length, get_or, take, take_all, ◌+◌, ◌≤◌}
use Rattle.std.specs.List.{list_all}
use Rattle.std.specs.Option.{option_map_or}
use Rattle.std.proofs.lemmas.List.Folds.{list_any_more}
use Rattle.std.proofs.lemmas.Bool.{cond_both, eqb-true, eq-eqb, ne_eqb}
use Rattle.net_items.specs.declared.items.LinkSet.{LinkSet}
use Rattle.net_items.specs.Keyed.{IsRising}
use Rattle.net_items.specs.Lookups.{joins, set_at}
use Rattle.net_items.proofs.KeyedLemmas.{found_holds}
use Rattle.net_sets.specs.Sets.{edit_set, with_change, with_link, without_link}
use Rattle.net_data.specs.declared.events.Event.{Event}
use Rattle.net_data.specs.declared.events.Event.TheVariants as on
use Rattle.net_data.specs.Kinds.{is_of_links}
use Rattle.net_data.specs.Edits.{changed, replay}
use Rattle.net_data.specs.Network.{Network}
use Rattle.link_sets.specs.Availability.{set_available, connected}
use Rattle.excerpts.specs.declared.turned.Pair.{Pair}
use Rattle.excerpts.specs.Index.{AreSameEnds, HasSameEnds}
use Rattle.excerpts.specs.Turned.{has_pair, is_named, set_linked, ArePairsTurned, HasTold}
use Rattle.excerpts.proofs.TurnedLemmas.{ends_of_joint}

-- a set in its place after events: its id and its ends, and all of it unless an event names it
record IsAlike (named : ℕ → Bool) (s t : LinkSet) : Type 0 where
  id : t.id ≡ s.id
  ends : HasSameEnds t s
  same : named s.id ≡ false → t ≡ s

abbrev AreAlike : (ℕ → Bool) → List LinkSet → List LinkSet → Type 0
AreAlike named [] [] = Unit {0}
AreAlike named [] (t ∷ ts) = ⊥
AreAlike named (s ∷ ss) [] = ⊥
AreAlike named (s ∷ ss) (t ∷ ts) = IsAlike named s t × AreAlike named ss ts

alike_itself : (named : ℕ → Bool) (ss : List LinkSet) → AreAlike named ss ss
alike_itself named [] = tt
alike_itself named (s ∷ ss) = (record { id = refl; ends = record { first = refl; second = refl }; same = λ no. refl }, alike_itself named ss)

-- the set that an event names may change, but not its id or its ends
alike_edit : (named : ℕ → Bool) (k : ℕ) (f : LinkSet → LinkSet) → ((x : LinkSet) → (f x).id ≡ x.id) → ((x : LinkSet) → HasSameEnds (f x) x) → named k ≡ true
    → (ss ts : List LinkSet) → AreAlike named ss ts → AreAlike named ss (edit_set k f ts)
alike_edit named k f ids ends is [] [] alike = tt
alike_edit named k f ids ends is [] (t ∷ ts) alike = absurd alike
alike_edit named k f ids ends is (s ∷ ss) [] alike = absurd alike
alike_edit named k f ids ends is (s ∷ ss) (t ∷ ts) alike =
    cond_both (eqb t.id k) (f t ∷ ts) (t ∷ edit_set k f ts) (AreAlike named (s ∷ ss))
    (λ here. (
      record {
        id = ids t ∙ alike.0.id;
        ends = record { first = (ends t).first ∙ alike.0.ends.first; second = (ends t).second ∙ alike.0.ends.second };
        same = λ no. (let yes : named s.id ≡ true = ap named (sym alike.0.id ∙ eqb-true t.id k here) ∙ is in let bad : true ≡ false = sym yes ∙ no in absurd (cc));
      },
      alike.1,
    ))
    (λ there. (alike.0, alike_edit named k f ids ends is ss ts alike.1))

-- events of links, each of a set that is named
alike_replay : (named : ℕ → Bool) (events : List Event) → list_all is_of_links events ≡ true → ((id : ℕ) → is_named events id ≡ true → named id ≡ true)
    → (ss : List LinkSet) (net : Network) → AreAlike named ss net.sets → AreAlike named ss (replay net events).sets
alike_replay named [] all names ss net alike = alike
alike_replay named (on.Link k slc change ∷ events) all names ss net alike =
    alike_replay named events all (λ id e. names id (grind (arith, e))) ss (changed net (on.Link k slc change))
    (alike_edit named k (with_change slc change) (λ x. refl) (λ x. record { first = refl; second = refl }) (names k (ap (λ b. b || is_named events k) (eq-eqb k k refl))) ss net.sets alike)
alike_replay named (on.AddLink k slc ∷ events) all names ss net alike =
    alike_replay named events all (λ id e. names id (grind (arith, e))) ss (changed net (on.AddLink k slc))
    (alike_edit named k (with_link slc) (λ x. refl) (λ x. record { first = refl; second = refl }) (names k (ap (λ b. b || is_named events k) (eq-eqb k k refl))) ss net.sets alike)
alike_replay named (on.RemoveLink k slc ∷ events) all names ss net alike =
    alike_replay named events all (λ id e. names id (grind (arith, e))) ss (changed net (on.RemoveLink k slc))
    (alike_edit named k (without_link slc) (λ x. refl) (λ x. record { first = refl; second = refl }) (names k (ap (λ b. b || is_named events k) (eq-eqb k k refl))) ss net.sets alike)
alike_replay named (on.AddPoint c kind ∷ events) all names ss net alike = absurd (cc)
alike_replay named (on.RemovePoint c ∷ events) all names ss net alike = absurd (cc)
alike_replay named (on.Pair p q ∷ events) all names ss net alike = absurd (cc)
alike_replay named (on.Unpair p ∷ events) all names ss net alike = absurd (cc)
alike_replay named (on.AddSet id a b slcs ∷ events) all names ss net alike = absurd (cc)
alike_replay named (on.RemoveSet id ∷ events) all names ss net alike = absurd (cc)
alike_replay named (on.SetPlan p ∷ events) all names ss net alike = absurd (cc)
alike_replay named (on.DropPlan dest ∷ events) all names ss net alike = absurd (cc)
alike_replay named (on.SetTfr b ∷ events) all names ss net alike = absurd (cc)

found_id : (k : ℕ) (ss : List LinkSet) (x : LinkSet) → set_at ss k ≡ Some x → x.id ≡ k
found_id k [] x e = absurd (cc)
found_id k (s ∷ ss) x e =
    cond_both (eqb s.id k) (Some s) (set_at ss k) (λ o. o ≡ Some x → x.id ≡ k)
    (λ b h. (let same : s ≡ x = cc in subst (λ (w : LinkSet). w.id ≡ k) same (eqb-true _ _ b))) (λ b h. found_id k ss x h) e

-- what is found behind a head is found with it
in_whole : (whole : List LinkSet) (s : LinkSet) (ss : List LinkSet) → IsRising (λ (x : LinkSet). x.id) (s ∷ ss) → ((k : ℕ) (x : LinkSet) → set_at (s ∷ ss) k ≡ Some x → set_at whole k ≡ Some x)
    → (k : ℕ) (x : LinkSet) → set_at ss k ≡ Some x → set_at whole k ≡ Some x
in_whole whole s ss up all k x found =
    let above : s.id < x.id = found_holds (λ (y : LinkSet). y.id) (λ y. s.id < y.id) k ss x up.0 found in
    let key : x.id ≡ k = found_id k ss x found in
    let off : eqb s.id k ≡ false = ne_eqb s.id k (λ e. omega (arith, e, key, above)) in
    all k x (rw off found)

-- a set between two points that the list lacks is available in both networks or in neither
alike_available : (list : List Pair) (s t : LinkSet) (y z : ℕ) → (set_available s ≢ set_available t → (has_pair list s.a s.b ≡ true) × (has_pair list s.b s.a ≡ true)) → joins y z s ≡ true → has_pair list y z ≡ false
    → set_available t ≡ set_available s
alike_available list s t y z told e lacks = decide (set_available s) refl (set_available t) refl
  where
    has : set_available s ≢ set_available t → has_pair list y z ≡ true
    has differ = elim (ends_of_joint y z s e) [
      | inl w ↦ rw (w.0, w.1) at (told differ).0
      | inr w ↦ rw (w.0, w.1) at (told differ).1
    ]

    decide : (p : Bool) → set_available s ≡ p → (q : Bool) → set_available t ≡ q → set_available t ≡ set_available s
    decide true a true b = b ∙ sym a
    decide false a false b = b ∙ sym a
    decide true a false b = let bad : true ≡ false = sym (has (λ eq. (let no : true ≡ false = sym a ∙ (eq ∙ b) in cc))) ∙ lacks in cc
    decide false a true b = let bad : true ≡ false = sym (has (λ eq. (let no : false ≡ true = sym a ∙ (eq ∙ b) in cc))) ∙ lacks in cc

module _ (named : ℕ → Bool) (before after : List LinkSet) (list : List Pair) (told : (id : ℕ) → named id ≡ true → HasTold before after list id) where
  available_alike : (s t : LinkSet) (y z : ℕ) → IsAlike named s t → set_at before s.id ≡ Some s → set_at after s.id ≡ Some t → joins y z s ≡ true → has_pair list y z ≡ false → (b : Bool) → named s.id ≡ b → set_available t ≡ set_available s
  available_alike s t y z alike at_s at_t e lacks false unnamed = ap set_available (alike.same unnamed)
  available_alike s t y z alike at_s at_t e lacks true is = alike_available list s t y z (told s.id is s t at_s at_t) e lacks

  -- between points that the list lacks, the sets from a place on join alike
  joined_alike : (ss ts : List LinkSet) → AreAlike named ss ts → IsRising (λ (x : LinkSet). x.id) ss → IsRising (λ (x : LinkSet). x.id) ts
      → ((k : ℕ) (x : LinkSet) → set_at ss k ≡ Some x → set_at before k ≡ Some x) → ((k : ℕ) (x : LinkSet) → set_at ts k ≡ Some x → set_at after k ≡ Some x)
      → (y z : ℕ) → has_pair list y z ≡ false → connected ts y z ≡ connected ss y z
  joined_alike [] [] alike up up' mine theirs y z lacks = refl
  joined_alike [] (t ∷ ts) alike up up' mine theirs y z lacks = absurd alike
  joined_alike (s ∷ ss) [] alike up up' mine theirs y z lacks = absurd alike
  joined_alike (s ∷ ss) (t ∷ ts) alike up up' mine theirs y z lacks =
      go (joins y z s) refl (joined_alike ss ts alike.1 up.1 up'.1 (in_whole before s ss up mine) (in_whole after t ts up' theirs) y z lacks)
    where
      both : joins y z t ≡ joins y z s
      both = rw (alike.0.ends.first, alike.0.ends.second) refl

      at_s : set_at before s.id ≡ Some s
      at_s = mine s.id s (rw (eq-eqb s.id s.id refl) refl)

      at_t : set_at after s.id ≡ Some t
      at_t = theirs s.id t (rw (eq-eqb t.id s.id alike.0.id) refl)

      go : (b : Bool) → joins y z s ≡ b → connected ts y z ≡ connected ss y z → connected (t ∷ ts) y z ≡ connected (s ∷ ss) y z
      go true e rest = let here = both ∙ e in rw (e, here) (available_alike s t y z alike.0 at_s at_t e lacks (named s.id) refl)
      go false e rest = let here = both ∙ e in rw (e, here) rest

-- sets that are alike have the same ends
alike_ends : (named : ℕ → Bool) (ss ts : List LinkSet) → AreAlike named ss ts → AreSameEnds ss ts
alike_ends named [] [] alike = tt
alike_ends named [] (t ∷ ts) alike = alike
alike_ends named (s ∷ ss) [] alike = alike
alike_ends named (s ∷ ss) (t ∷ ts) alike = (record { first = sym alike.0.ends.first; second = sym alike.0.ends.second }, alike_ends named ss ts alike.1)

alike_after : (before net : Network) (events : List Event) → net ≡ replay before events → list_all is_of_links events ≡ true → AreAlike (is_named events) before.sets net.sets
alike_after before net events is all =
    subst (λ (n : Network). AreAlike (is_named events) before.sets n.sets) (sym is) (alike_replay (is_named events) events all (λ id e. e) before.sets before (alike_itself (is_named events) before.sets))

-- events of links leave the ends of all sets
pub ends_after : (before net : Network) (events : List Event) → net ≡ replay before events → list_all is_of_links events ≡ true → AreSameEnds before.sets net.sets
ends_after before net events is all = alike_ends (is_named events) before.sets net.sets (alike_after before net events is all)

-- where the list has the ends of each named set that turned, nothing else turned
pub named_turned : (before net : Network) (events : List Event) (list : List Pair) → net ≡ replay before events → list_all is_of_links events ≡ true
    → IsRising (λ (x : LinkSet). x.id) before.sets → IsRising (λ (x : LinkSet). x.id) net.sets
    → ((id : ℕ) → is_named events id ≡ true → HasTold before.sets net.sets list id) → ArePairsTurned before.sets net.sets list
named_turned before net events list is all up up' told y z lacks =
    joined_alike (is_named events) before.sets net.sets list told before.sets net.sets
    (alike_after before net events is all)
    up up' (λ k x e. e) (λ k x e. e) y z lacks

-- ---- the events one by one

-- a longer list has the ends too
pub told_longer : (before after : List LinkSet) (list longer : List Pair) (id : ℕ) → ((y z : ℕ) → has_pair list y z ≡ true → has_pair longer y z ≡ true) → HasTold before after list id → HasTold before after longer id
told_longer before after list longer id kept told s t at_s at_t differ = let both = told s t at_s at_t differ in (kept s.a s.b both.0, kept s.b s.a both.1)

-- one more event that names no set
pub named_none : (before after : List LinkSet) (list : List Pair) (events : List Event) (i : ℕ) (e : Event) → i < length events → (d : Event) → e ≡ get_or events i d → set_linked e ≡ None
    → ((id : ℕ) → is_named (take i events) id ≡ true → HasTold before after list id) → (id : ℕ) → is_named (take (i + 1) events) id ≡ true → HasTold before after list id
named_none before after list events i e within d is none told id named =
    let more = list_any_more (λ event. option_map_or (λ k. eqb k id) (set_linked event) false) events i d within in
    let last : set_linked (get_or events i d) ≡ None = ap set_linked (sym is) ∙ none in
    told id (sym (more ∙ rw last (false_last (is_named (take i events) id))) ∙ named)
  where
    false_last : (b : Bool) → (b || false) ≡ b
    false_last true = refl
    false_last false = refl

-- one more event that names a set
pub named_more : (before after : List LinkSet) (list longer : List Pair) (events : List Event) (i : ℕ) (e : Event) (k : ℕ) → i < length events → (d : Event) → e ≡ get_or events i d → set_linked e ≡ Some k
    → ((y z : ℕ) → has_pair list y z ≡ true → has_pair longer y z ≡ true) → HasTold before after longer k
    → ((id : ℕ) → is_named (take i events) id ≡ true → HasTold before after list id) → (id : ℕ) → is_named (take (i + 1) events) id ≡ true → HasTold before after longer id
named_more before after list longer events i e k within d is some kept here told id named =
    go (is_named (take i events) id) refl (eqb k id) refl
  where
    go : (b : Bool) → is_named (take i events) id ≡ b → (c : Bool) → eqb k id ≡ c → HasTold before after longer id
    go true was c key = told_longer before after list longer id kept (told id was)
    go false was true key = subst (HasTold before after longer) (eqb-true k id key) here
    go false was false key =
        let more = list_any_more (λ event. option_map_or (λ k. eqb k id) (set_linked event) false) events i d within in
        let last : set_linked (get_or events i d) ≡ Some k = ap set_linked (sym is) ∙ some in
        let no : false ≡ true = sym (more ∙ rw (last, was, key) refl) ∙ named in absurd (cc)

-- all events
pub named_all : (before after : List LinkSet) (list : List Pair) (events : List Event) (i : ℕ) → length events ≤ i
    → ((id : ℕ) → is_named (take i events) id ≡ true → HasTold before after list id) → (id : ℕ) → is_named events id ≡ true → HasTold before after list id
named_all before after list events i all told id named = told id (rw (take_all i events all) named)
