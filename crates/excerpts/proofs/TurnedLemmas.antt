-- What a list of ends tells of the availability between two points.
use Rattle.std.proofs.Common.{◌≡◌, ◌≢◌, ℕ, suc, ◌+◌, ◌<◌, Bool, true, false, ◌&&◌, eqb, Option, Some, None, List, [], ◌∷◌, ◌≤◌, length, get_or, drop, refl, sym, ap, ◌∙◌, arith, inl, inr, map, ◌||◌, ◌⊎◌, slice_get}
use Rattle.std.specs.List.{AllByRecursion}
use Rattle.std.proofs.lemmas.List.{drop_all, drop_more}
use Rattle.std.specs.Prelude.{find, is_some}
use Rattle.std.proofs.lemmas.Bool.{eqb-true, cases_eq}
use Rattle.std.proofs.lemmas.Option.{same_Some}
use Rattle.net_items.specs.declared.items.LinkSet.{LinkSet}
use Rattle.net_items.specs.Lookups.{joins, set_between}
use Rattle.link_sets.specs.Availability.{set_available, connected}
use Rattle.profile.proofs.CertificateLemmas.{connected_back}
use Rattle.excerpts.specs.declared.turned.Pair.{Pair}
use Rattle.net_items.specs.declared.items.Point.{Point}
use Rattle.excerpts.specs.Index.{HasSameEnds}
use Rattle.excerpts.specs.Turned.{has_ends, has_pair, told_of, ArePairsTurned, IsTold}

-- what is found has a place, and passes
pub place_found : {X : Type 0} (p : X → Bool) (xs : List X) (x : X) → find p xs ≡ Some x → (k : ℕ) × (slice_get xs k ≡ Some x) × (p x ≡ true)
place_found p [] x e = cc
place_found p (y ∷ ys) x e = go (p y) refl (place_found p ys x)
  where
    go : (b : Bool) → p y ≡ b → (find p ys ≡ Some x → (k : ℕ) × (slice_get ys k ≡ Some x) × (p x ≡ true)) → (k : ℕ) × (slice_get (y ∷ ys) k ≡ Some x) × (p x ≡ true)
    go true t rec = let here : Some y ≡ Some x = rw t at e in (0, here, ap p (sym (same_Some y x here)) ∙ t)
    go false t rec = let later = rec (rw t at e) in (suc later.0, later.1, later.2)

-- the ends of a set between two points are these, in one order or the other
pub ends_of_joint : (y z : ℕ) (s : LinkSet) → joins y z s ≡ true → ((s.a ≡ y) × (s.b ≡ z)) ⊎ ((s.a ≡ z) × (s.b ≡ y))
ends_of_joint y z s e = go (eqb s.a y) refl (eqb s.b z) refl
  where
    back : (p q : Bool) → eqb s.a z ≡ p → eqb s.b y ≡ q → (p && q) ≡ true → ((s.a ≡ y) × (s.b ≡ z)) ⊎ ((s.a ≡ z) × (s.b ≡ y))
    back true true ez ey t = inr (eqb-true s.a z ez, eqb-true s.b y ey)
    back true false ez ey t = cc
    back false q ez ey t = cc

    go : (p : Bool) → eqb s.a y ≡ p → (q : Bool) → eqb s.b z ≡ q → ((s.a ≡ y) × (s.b ≡ z)) ⊎ ((s.a ≡ z) × (s.b ≡ y))
    go true ey true ez = inl (eqb-true s.a y ey, eqb-true s.b z ez)
    go true ey false ez = back (eqb s.a z) (eqb s.b y) refl refl (rw (ey, ez) at e)
    go false ey q ez = back (eqb s.a z) (eqb s.b y) refl refl (rw ey at e)

module _ (after before : List LinkSet) where
  -- the sets in the first places have their ends in the list, if an available set joins these in one network alone
  abbrev pub ArePut : List LinkSet → List Pair → ℕ → Type 0
  ArePut sets list i = (k : ℕ) (s : LinkSet) → k < i → slice_get sets k ≡ Some s → connected after s.a s.b ≢ connected before s.a s.b
      → (has_pair list s.a s.b ≡ true) × (has_pair list s.b s.a ≡ true)

  -- one more set
  pub put_more : (sets : List LinkSet) (list longer : List Pair) (i : ℕ) (s : LinkSet) → slice_get sets i ≡ Some s
      → ((y z : ℕ) → has_pair list y z ≡ true → has_pair longer y z ≡ true)
      → (connected after s.a s.b ≢ connected before s.a s.b → has_pair longer s.a s.b ≡ true)
      → (connected after s.a s.b ≢ connected before s.a s.b → has_pair longer s.b s.a ≡ true)
      → ArePut sets list i → ArePut sets longer (i + 1)
  put_more sets list longer i s at kept there back put k t low is differ =
      elim (cases_eq k i) [
        | inl e ↦
            let same : s ≡ t = same_Some s t (sym at ∙ ap (slice_get sets) (sym e) ∙ is) in
            let other : connected after s.a s.b ≢ connected before s.a s.b = λ eq. differ (rw same at eq) in
            (rw same at (there other), rw same at (back other))
        | inr ne ↦ let was = put k t (omega arith) is differ in (kept t.a t.b was.0, kept t.b t.a was.1)
      ]

  -- all sets
  pub put_all : (sets : List LinkSet) (list : List Pair) (n : ℕ) → ((k : ℕ) (s : LinkSet) → slice_get sets k ≡ Some s → k < n) → ArePut sets list n
      → (y z : ℕ) → is_some (set_between sets y z) ≡ true → connected after y z ≢ connected before y z → has_pair list y z ≡ true
  put_all sets list n within put y z there differ = go (set_between sets y z) refl
    where
      go : (o : Option LinkSet) → set_between sets y z ≡ o → has_pair list y z ≡ true
      go None e = let none : false ≡ true = rw e at there in cc
      go (Some s) e =
          let found = place_found (joins y z) sets s e in
          elim (ends_of_joint y z s found.2) [
            | inl w ↦
                let other : connected after s.a s.b ≢ connected before s.a s.b = λ eq. differ (rw (w.0, w.1) at eq) in
                rw (w.0, w.1) at (put found.0 s (within found.0 s found.1) found.1 other).0
            | inr w ↦
                let other : connected after s.a s.b ≢ connected before s.a s.b = λ eq. differ (connected_back after y z ∙ (rw (w.0, w.1) at eq) ∙ connected_back before z y) in
                rw (w.0, w.1) at (put found.0 s (within found.0 s found.1) found.1 other).1
          ]

  -- where no set is, no available one is
  no_set : (sets : List LinkSet) (y z : ℕ) → connected sets y z ≡ true → is_some (set_between sets y z) ≡ true
  no_set sets y z e = go (set_between sets y z) refl
    where
      go : (o : Option LinkSet) → set_between sets y z ≡ o → is_some (set_between sets y z) ≡ true
      go None none = let no : false ≡ true = rw none at e in cc
      go (Some s) some = rw some refl

  -- two points that the list lacks are joined in both or in neither
  pub turned_by : (list : List Pair)
      → ((y z : ℕ) → is_some (set_between after y z) ≡ true → connected after y z ≢ connected before y z → has_pair list y z ≡ true)
      → ((y z : ℕ) → is_some (set_between before y z) ≡ true → connected after y z ≢ connected before y z → has_pair list y z ≡ true)
      → (y z : ℕ) → has_pair list y z ≡ false → connected after y z ≡ connected before y z
  turned_by list ours theirs y z lacks = go (connected after y z) refl (connected before y z) refl
    where
      go : (p : Bool) → connected after y z ≡ p → (q : Bool) → connected before y z ≡ q → connected after y z ≡ connected before y z
      go true ep true eq = ep ∙ sym eq
      go false ep false eq = ep ∙ sym eq
      go true ep false eq =
          let has : has_pair list y z ≡ true = ours y z (no_set after y z ep) (λ e. (let no : true ≡ false = sym ep ∙ e ∙ eq in cc)) in
          let no : true ≡ false = sym has ∙ lacks in cc
      go false ep true eq =
          let has : has_pair list y z ≡ true = theirs y z (no_set before y z eq) (λ e. (let no : false ≡ true = sym ep ∙ e ∙ eq in cc)) in
          let no : true ≡ false = sym has ∙ lacks in cc

-- ---- sets that join the same points, place by place

module _ (sets others : List LinkSet) where
  -- between points that the list lacks, the sets from a place on tell whether all join alike
  abbrev pub TellFrom : List Pair → ℕ → Type 0
  TellFrom list i = (y z : ℕ) → has_pair list y z ≡ false → connected (drop i sets) y z ≡ connected (drop i others) y z → connected sets y z ≡ connected others y z

  -- one place more
  pub tell_more : (list longer : List Pair) (i : ℕ) (s t : LinkSet) → i < length sets → s ≡ get_or sets i s → i < length others → t ≡ get_or others i t → HasSameEnds s t
      → ((y z : ℕ) → has_pair list y z ≡ true → has_pair longer y z ≡ true)
      → (set_available s ≢ set_available t → has_pair longer s.a s.b ≡ true)
      → (set_available s ≢ set_available t → has_pair longer s.b s.a ≡ true)
      → TellFrom list i → TellFrom longer (i + 1)
  tell_more list longer i s t within is low other same kept there back tell y z lacks rest =
      tell y z (shorter (has_pair list y z) refl) (rw (drop_more sets i s within, drop_more others i t low, ← is, ← other) here)
    where
      shorter : (b : Bool) → has_pair list y z ≡ b → has_pair list y z ≡ false
      shorter false e = e
      shorter true e = let bad : true ≡ false = sym (kept y z e) ∙ lacks in cc

      alike : joins y z t ≡ joins y z s
      alike = rw (← same.first, ← same.second) refl

      -- a set between the two points is available in both or in neither
      available : joins y z s ≡ true → set_available s ≡ set_available t
      available e = go (set_available s) refl (set_available t) refl
        where
          has : (set_available s ≢ set_available t) → has_pair longer y z ≡ true
          has differ = elim (ends_of_joint y z s e) [
            | inl w ↦ rw (w.0, w.1) at (there differ)
            | inr w ↦ rw (w.0, w.1) at (back differ)
          ]

          go : (p : Bool) → set_available s ≡ p → (q : Bool) → set_available t ≡ q → set_available s ≡ set_available t
          go true a true b = a ∙ sym b
          go false a false b = a ∙ sym b
          go true a false b = let bad : true ≡ false = sym (has (λ eq. (let no : true ≡ false = sym a ∙ (eq ∙ b) in cc))) ∙ lacks in cc
          go false a true b = let bad : true ≡ false = sym (has (λ eq. (let no : false ≡ true = sym a ∙ (eq ∙ b) in cc))) ∙ lacks in cc

      here : connected (s ∷ drop (i + 1) sets) y z ≡ connected (t ∷ drop (i + 1) others) y z
      here = go (joins y z s) refl
        where
          go : (b : Bool) → joins y z s ≡ b → connected (s ∷ drop (i + 1) sets) y z ≡ connected (t ∷ drop (i + 1) others) y z
          go true e = let both = alike ∙ e in rw (e, both) (available e)
          go false e = let neither = alike ∙ e in rw (e, neither) rest

  -- past the end nothing is left
  pub tell_all : (list : List Pair) (i : ℕ) → length sets ≤ i → length others ≤ i → TellFrom list i → ArePairsTurned others sets list
  tell_all list i within low tell y z lacks = tell y z lacks (rw (drop_all i sets within, drop_all i others low) refl)

-- ---- what is told of pairs

-- the ends are those of the pairs
pub told_ends : (points : List Point) (pairs : List Pair) (y z : ℕ) → has_ends (map (told_of points) pairs) y z ≡ has_pair pairs y z
told_ends points [] y z = refl
told_ends points (p ∷ pairs) y z = ap (λ b. (eqb p.point y && eqb p.other z) || b) (told_ends points pairs y z)

-- and what they tell is true
pub all_told : (points : List Point) (pairs : List Pair) → AllByRecursion (IsTold points) (map (told_of points) pairs)
all_told points [] = tt
all_told points (p ∷ pairs) = (record { transfers = refl; mates = refl }, all_told points pairs)
