-- An index of sets is one of other sets with the same ends.
use Rattle.std.proofs.Common.{◌≡◌, ℕ, zero, suc, ◌+◌, ◌<◌, ◌≤◌, Bool, true, false, ◌||◌, cond, Option, Some, None, List, [], ◌∷◌, length, get_or, drop, slice_get, refl, ap, sym, ◌∙◌, subst, inl, inr}
use Rattle.std.specs.Prelude.{find, is_some}
use Rattle.std.proofs.lemmas.List.{drop_all, drop_more}
use Rattle.std.proofs.lemmas.Bool.{eq-eqb}
use Rattle.std.proofs.lemmas.Option.{same_Some}
use Rattle.net_items.specs.declared.items.LinkSet.{LinkSet}
use Rattle.net_items.specs.Keyed.{at_key}
use Rattle.net_items.specs.Lookups.{adjacent, joins}
use Rattle.net_sets.specs.Joints.{joint_of}
use Rattle.net_sets.specs.Sets.{IsOnePerPair}
use Rattle.excerpts.specs.declared.index.Joint.{Joint}
use Rattle.excerpts.specs.Index.{AreSameEnds, HasSameEnds, IsHeld, IsJointIndex, IsJointOf}
use Rattle.excerpts.proofs.TurnedLemmas.{ends_of_joint, place_found}

-- one place more from which on the ends are the same
pub same_from : (sets others : List LinkSet) (position : ℕ) (s t : LinkSet) → position < length sets → s ≡ get_or sets position s → position < length others → t ≡ get_or others position t
    → HasSameEnds s t → AreSameEnds (drop (position + 1) sets) (drop (position + 1) others) → AreSameEnds (drop position sets) (drop position others)
same_from sets others position s t within is there other same rest =
    rw (drop_more sets position s within, drop_more others position t there)
    (subst (λ w. HasSameEnds w (get_or others position t)) is (subst (λ w. HasSameEnds s w) other same), rest)

-- past the end nothing is left to compare
pub same_end : (sets others : List LinkSet) (position : ℕ) → length sets ≤ position → length others ≤ position → AreSameEnds (drop position sets) (drop position others)
same_end sets others position within other = rw (drop_all position sets within, drop_all position others other) tt

-- sets with the same ends join alike
joins_alike : (y z : ℕ) (s t : LinkSet) → HasSameEnds s t → joins y z s ≡ joins y z t
joins_alike y z s t same = rw (same.first, same.second) refl

-- the set in a place of the one list has the ends of that in the same place of the other
same_at : (sets others : List LinkSet) (k : ℕ) (s : LinkSet) → AreSameEnds sets others → slice_get sets k ≡ Some s → (t : LinkSet) × (slice_get others k ≡ Some t) × HasSameEnds s t
same_at [] others k s same at = cc
same_at (x ∷ xs) [] k s same at = absurd same
same_at (x ∷ xs) (y ∷ ys) zero s same at = (y, refl, subst (λ w. HasSameEnds w y) (same_Some x s at) same.0)
same_at (x ∷ xs) (y ∷ ys) (suc k) s same at = same_at xs ys k s same.1 at

-- two points are joined in both or in neither
pub same_adjacent : (sets others : List LinkSet) (y z : ℕ) → AreSameEnds sets others → is_some (find (joins y z) sets) ≡ is_some (find (joins y z) others)
same_adjacent [] [] y z same = refl
same_adjacent [] (t ∷ ts) y z same = absurd same
same_adjacent (s ∷ ss) [] y z same = absurd same
same_adjacent (s ∷ ss) (t ∷ ts) y z same = go (joins y z s) (joins y z t) (joins_alike y z s t same.0) (same_adjacent ss ts y z same.1)
  where
    go : (p q : Bool) → p ≡ q → is_some (find (joins y z) ss) ≡ is_some (find (joins y z) ts) → is_some (cond p (Some s) (find (joins y z) ss)) ≡ is_some (cond q (Some t) (find (joins y z) ts))
    go true true e rec = refl
    go false false e rec = rec
    go true false e rec = cc
    go false true e rec = cc

or_true : (b : Bool) → (b || true) ≡ true
or_true true = refl
or_true false = refl

-- two sets between the same points: one is between the points of the other
joins_ends : (y z : ℕ) (s t : LinkSet) → joins y z s ≡ true → joins y z t ≡ true → joins s.a s.b t ≡ true
joins_ends y z s t one other = elim (ends_of_joint y z s one) [
  | inl p ↦ elim (ends_of_joint y z t other) [
    | inl q ↦ rw (p.0, p.1, q.0, q.1, eq-eqb y y refl, eq-eqb z z refl) refl
    | inr q ↦ rw (p.0, p.1, q.0, q.1, eq-eqb y y refl, eq-eqb z z refl) (or_true _)
  ]
  | inr p ↦ elim (ends_of_joint y z t other) [
    | inl q ↦ rw (p.0, p.1, q.0, q.1, eq-eqb y y refl, eq-eqb z z refl) (or_true _)
    | inr q ↦ rw (p.0, p.1, q.0, q.1, eq-eqb y y refl, eq-eqb z z refl) refl
  ]
]

-- what has a place and passes is found, or another
place_finds : {X : Type 0} (p : X → Bool) (xs : List X) (k : ℕ) (x : X) → slice_get xs k ≡ Some x → p x ≡ true → is_some (find p xs) ≡ true
place_finds p [] k x at passes = cc
place_finds p (y ∷ ys) zero x at passes = rw (ap p (same_Some y x at) ∙ passes) refl
place_finds p (y ∷ ys) (suc k) x at passes = go (p y) (place_finds p ys k x at passes)
  where
    go : (b : Bool) → is_some (find p ys) ≡ true → is_some (cond b (Some y) (find p ys)) ≡ true
    go true rec = refl
    go false rec = rec

-- no two sets are between the same points
only_one : (sets : List LinkSet) (y z : ℕ) → IsOnePerPair sets → (k m : ℕ) (s t : LinkSet) → slice_get sets k ≡ Some s → joins y z s ≡ true → slice_get sets m ≡ Some t → joins y z t ≡ true → s ≡ t
only_one [] y z one k m s t here joined there other = cc
only_one (x ∷ xs) y z one zero zero s t here joined there other = sym (same_Some x s here) ∙ same_Some x t there
only_one (x ∷ xs) y z one zero (suc m) s t here joined there other =
    let is : x ≡ s = same_Some x s here in
    let found : adjacent xs x.a x.b ≡ true = place_finds (joins x.a x.b) xs m t there (joins_ends y z x t (rw is joined) other) in
    let no : true ≡ false = sym found ∙ one.0 in cc
only_one (x ∷ xs) y z one (suc k) zero s t here joined there other =
    let is : x ≡ t = same_Some x t there in
    let found : adjacent xs x.a x.b ≡ true = place_finds (joins x.a x.b) xs k s here (joins_ends y z x s (rw is other) joined) in
    let no : true ≡ false = sym found ∙ one.0 in cc
only_one (x ∷ xs) y z one (suc k) (suc m) s t here joined there other = only_one xs y z one.1 k m s t here joined there other

-- the index of sets is one of other sets with the same ends, if no two of these are between the same points
pub index_shared : (joints : List Joint) (before after : List LinkSet) → IsJointIndex joints before → AreSameEnds before after → IsOnePerPair after → IsJointIndex joints after
index_shared joints before after are same one = record {
  rise = are.rise;
  tells = λ y z y_small z_small. held y z (find (joins y z) before) refl (find (joins y z) after) refl (at_key (λ (j : Joint). j.pair) (joint_of y z) joints) (are.tells y z y_small z_small);
}
  where
    there : (y z : ℕ) (s t : LinkSet) (j : Joint) → find (joins y z) before ≡ Some s → find (joins y z) after ≡ Some t → IsJointOf before s j → IsJointOf after t j
    there y z s t j found_before found_after is =
        let was = same_at before after j.position s same is in
        let now = place_found (joins y z) after t found_after in
        let joined : joins y z was.0 ≡ true = sym (joins_alike y z s was.0 was.2) ∙ (place_found (joins y z) before s found_before).2 in
        let equal : was.0 ≡ t = only_one after y z one j.position now.0 was.0 t was.1 joined now.1 now.2 in
        was.1 ∙ ap Some equal

    held : (y z : ℕ) (o : Option LinkSet) → find (joins y z) before ≡ o → (p : Option LinkSet) → find (joins y z) after ≡ p → (h : Option Joint) → IsHeld before o h → IsHeld after p h
    held y z None found None found_after h is = is
    held y z None found (Some t) found_after h is =
        let no : false ≡ true = rw (found, found_after) at (same_adjacent before after y z same) in cc
    held y z (Some s) found None found_after h is =
        let no : true ≡ false = rw (found, found_after) at (same_adjacent before after y z same) in cc
    held y z (Some s) found (Some t) found_after None is = absurd is
    held y z (Some s) found (Some t) found_after (Some j) is = there y z s t j found found_after is
