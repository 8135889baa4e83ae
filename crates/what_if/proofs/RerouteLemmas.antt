-- Choices that are compared, and which reroutes there are.
use Rattle.std.proofs.Common.{◌≡◌, ◌≢◌, ℕ, suc, ◌<◌, eqb, cond, true, false, Bool, ◌⊎◌, inl, inr, List, [], ◌∷◌, ◌++◌, map, Option, Some, None, All, Decides, refl, sym, ap, subst, ◌∙◌, arith}
use Rattle.std.proofs.lemmas.Bool.{cond_both, eqb-true, false_from_ne_true}
use Rattle.std.proofs.lemmas.Bool.Decides.{Decides-and, Decides-eqb, Decides-like}
use Rattle.std.proofs.lemmas.List.Elements.{All-append, All-cons, All-nil, All-weaker, Contains-append_left, Contains-append_right}
use Rattle.std.proofs.lemmas.List.Kept.{AllPairs-cons}
use Rattle.std.proofs.lemmas.Option.{same_Some}
use Rattle.std.proofs.lemmas.Slice.Eq.{slice_eq-Decides}
use Rattle.std.specs.Cmp.Lexicographic.{pointwise}
use Rattle.std.specs.List.{AllByRecursion, AllPairs, Contains, flat_map}
use Rattle.std.specs.Option.{option_eq, option_map}
use Rattle.net_items.specs.declared.items.Plan.{Plan}
use Rattle.net_items.specs.declared.lists.Row.{Row}
use Rattle.net_items.specs.Keyed.{IsRising, at_key, put}
use Rattle.net_items.specs.Lookups.{plan_at, row_at}
use Rattle.net_items.proofs.KeyedLemmas.{IsRising-put, at_key-put}
use Rattle.net_data.specs.Network.{Network}
use Rattle.net_data.specs.Valid.{IsValid as IsValidNet}
use Rattle.route_choice.specs.declared.choices.Choice.{Choice}
use Rattle.route_choice.specs.declared.choices.Far.{Far}
use Rattle.route_choice.specs.Routes.{same_far}
use Rattle.route_choice.proofs.OfferLemmas.{far_from_goodness}
use Rattle.profile.proofs.ChoiceLemmas.{same_far_self}
use Rattle.excerpts.specs.Excerpt.{ExcerptValue, excerpt_at, excerpt_in}
use Rattle.excerpts.proofs.ExcerptLemmas.{extract_right}
use Rattle.what_if.specs.declared.reroutes.Reroute.{Reroute}
use Rattle.what_if.specs.Reports.{both, choice_of, dests, points}
use Rattle.what_if.specs.Reroutes.{ComesBefore, IsEachMove, IsMove, is_same_choice, reroute_between, reroute_of, reroutes, reroutes_between, same_choice}
use Rattle.what_if.proofs.GatheringLemmas.{dests_rise, points_rise}

-- ---- choices that are compared

option_decides : {A : Type 0} {E : A → A → Bool} → ((a b : A) → Decides (E a b) (a ≡ b)) → (x y : Option A) → Decides (option_eq E x y) (x ≡ y)
option_decides each None None = (λ e. refl, λ e. refl)
option_decides each None (Some y) = (λ e. cc, λ e. cc)
option_decides each (Some x) None = (λ e. cc, λ e. cc)
option_decides each (Some x) (Some y) = (λ e. ap Some ((each x y).0 e), λ e. (each x y).1 (same_Some x y e))

far_decides : (f g : Far) → Decides (same_far f g) (f ≡ g)
far_decides f g = (λ e. far_from_goodness f g (eqb-true _ _ e), λ e. subst (λ (h : Far). same_far f h ≡ true) e (same_far_self f))

members_decide : (ms ns : List (Option ℕ)) → Decides (pointwise (option_eq eqb) ms ns) (ms ≡ ns)
members_decide ms ns = slice_eq-Decides (option_decides Decides-eqb) ms ns _ refl

choice_decides : (c d : Choice) → Decides (same_choice c d) (c ≡ d)
choice_decides c d =
    Decides-like (same_choice c d) build (λ e. ((ap (λ (x : Choice). x.class) e, ap (λ (x : Choice). x.members) e), ap (λ (x : Choice). x.status) e))
    (Decides-and _ _ (Decides-and _ _ (Decides-eqb c.class d.class) (members_decide c.members d.members)) (far_decides c.status d.status))
  where
    build : ((c.class ≡ d.class) × (c.members ≡ d.members)) × (c.status ≡ d.status) → c ≡ d
    build same =
        ap (λ (n : ℕ). record { class = n; members = c.members; status = c.status }) same.0.0
        ∙ ap (λ (ms : List (Option ℕ)). record { class = d.class; members = ms; status = c.status }) same.0.1
        ∙ ap (λ (f : Far). record { class = d.class; members = d.members; status = f }) same.1

choices_decide : (c d : Option Choice) → Decides (is_same_choice c d) (c ≡ d)
choices_decide = option_decides choice_decides

-- no reroute is told where the choice stays
pub no_reroute : (old new : Option ExcerptValue) (dest point : ℕ) → choice_of old point ≡ choice_of new point → reroute_between old new dest point ≡ []
no_reroute old new dest point same = rw ((choices_decide (choice_of old point) (choice_of new point)).1 same) refl

-- ---- codes of both lists

both_has : (xs ys : List ℕ) (n : ℕ) → (at_key (λ m. m) n xs ≡ Some n) ⊎ (at_key (λ m. m) n ys ≡ Some n) → at_key (λ m. m) n (both xs ys) ≡ Some n
both_has [] ys n (inl e) = absurd (cc)
both_has [] ys n (inr e) = e
both_has (x ∷ xs) ys n (inl e) = both_has xs (put (λ m. m) x ys) n (go (eqb x n) refl e)
  where
    go : (b : Bool) → eqb x n ≡ b → cond b (Some x) (at_key (λ m. m) n xs) ≡ Some n → (at_key (λ m. m) n xs ≡ Some n) ⊎ (at_key (λ m. m) n (put (λ m. m) x ys) ≡ Some n)
    go true is here = inr (at_key-put (λ m. m) x ys n ∙ rw is here)
    go false is later = inl later
both_has (x ∷ xs) ys n (inr e) =
    both_has xs (put (λ m. m) x ys) n (inr (at_key-put (λ m. m) x ys n ∙ cond_both (eqb x n) (Some x) (at_key (λ m. m) n ys) (λ o. o ≡ Some n) (λ is. ap Some (eqb-true x n is)) (λ is. e)))

both_rise : (xs ys : List ℕ) → IsRising (λ (n : ℕ). n) ys → IsRising (λ (n : ℕ). n) (both xs ys)
both_rise [] ys rising = rising
both_rise (x ∷ xs) ys rising = both_rise xs (put (λ n. n) x ys) (IsRising-put (λ (n : ℕ). n) x ys rising)

-- the code of an element that is found
code_found : {X : Type 0} (key : X → ℕ) (n : ℕ) (xs : List X) (x : X) → at_key key n xs ≡ Some x → at_key (λ m. m) n (map key xs) ≡ Some n
code_found key n [] x e = absurd (cc)
code_found key n (y ∷ ys) x e = go (eqb (key y) n) refl e (code_found key n ys x)
  where
    go : (b : Bool) → eqb (key y) n ≡ b → cond b (Some y) (at_key key n ys) ≡ Some x → (at_key key n ys ≡ Some x → at_key (λ m. m) n (map key ys) ≡ Some n)
        → cond b (Some (key y)) (at_key (λ m. m) n (map key ys)) ≡ Some n
    go true is here rest = ap Some (eqb-true (key y) n is)
    go false is later rest = rest later

-- a point that has a choice has a row
point_found : (o : Option ExcerptValue) (y : ℕ) (c : Choice) → choice_of o y ≡ Some c → at_key (λ m. m) y (points o) ≡ Some y
point_found None y c e = absurd (cc)
point_found (Some x) y c e = go (row_at x.plan.rows y) refl
  where
    go : (o : Option Row) → row_at x.plan.rows y ≡ o → at_key (λ m. m) y (points (Some x)) ≡ Some y
    go None is = let no : None ≡ Some c = rw is at e in absurd (cc)
    go (Some row) is = code_found (λ (r : Row). r.point) y x.plan.rows row is

-- and its destination is planned
dest_found : (net : Network) (x y : ℕ) (c : Choice) → choice_of (excerpt_at net x) y ≡ Some c → at_key (λ m. m) x (dests net) ≡ Some x
dest_found net x y c e = go (plan_at net.plans x) refl
  where
    go : (o : Option Plan) → plan_at net.plans x ≡ o → at_key (λ m. m) x (dests net) ≡ Some x
    go None is = let no : None ≡ Some c = rw is at e in absurd (cc)
    go (Some plan) is = code_found (λ (p : Plan). p.dest) x net.plans plan is

-- ---- lists that are put together

contains_flat : {A : Type 0} (f : ℕ → List A) (ns : List ℕ) (n : ℕ) (a : A) → at_key (λ m. m) n ns ≡ Some n → Contains (f n) a → Contains (flat_map f ns) a
contains_flat f [] n a e here = absurd (cc)
contains_flat f (m ∷ ns) n a e here = go (eqb m n) refl e (λ later. contains_flat f ns n a later here)
  where
    go : (b : Bool) → eqb m n ≡ b → cond b (Some m) (at_key (λ k. k) n ns) ≡ Some n → (at_key (λ k. k) n ns ≡ Some n → Contains (flat_map f ns) a) → Contains (f m ++ flat_map f ns) a
    go true is first rest = Contains-append_left (f m) (flat_map f ns) a (rw (eqb-true m n is) here)
    go false is later rest = Contains-append_right (f m) (flat_map f ns) a (rest later)

all_flat : {A : Type 0} (P : A → Type 0) (f : ℕ → List A) → ((n : ℕ) → All P (f n)) → (ns : List ℕ) → All P (flat_map f ns)
all_flat P f each [] = All-nil P
all_flat P f each (n ∷ ns) = All-append P (f n) (flat_map f ns) (each n) (all_flat P f each ns)

pairs_append : {A : Type 0} (R : A → A → Type 0) (xs ys : List A) → AllPairs R xs → AllPairs R ys → All (λ x. All (R x) ys) xs → AllPairs R (xs ++ ys)
pairs_append R [] ys one other across = other
pairs_append R (x ∷ xs) ys one other across =
    AllPairs-cons R x (xs ++ ys) (All-append (R x) xs ys (λ i d lt. one 0 (suc i) d (omega arith) (omega arith)) (across 0 x (omega arith)))
    (pairs_append R xs ys (λ i j d lt in_range. one (suc i) (suc j) d (omega arith) (omega arith)) other (λ i d lt. across (suc i) d (omega arith)))

-- what is told of rising codes, in pairs
module _ {A : Type 0} (R : A → A → Type 0) (Q : ℕ → A → Type 0) (f : ℕ → List A) (each : (n : ℕ) → AllPairs R (f n)) (told : (n : ℕ) → All (Q n) (f n))
    (apart : (n m : ℕ) (a b : A) → n < m → Q n a → Q m b → R a b) where
  after_first : (n : ℕ) (a : A) → Q n a → (ns : List ℕ) → AllByRecursion (λ m. n < m) ns → All (R a) (flat_map f ns)
  after_first n a q [] above = All-nil (R a)
  after_first n a q (m ∷ ns) above =
      All-append (R a) (f m) (flat_map f ns) (All-weaker (Q m) (R a) (λ b r. apart n m a b above.0 q r) (f m) (told m)) (after_first n a q ns above.1)

  pairs_flat : (ns : List ℕ) → IsRising (λ (n : ℕ). n) ns → AllPairs R (flat_map f ns)
  pairs_flat [] rising = λ i j d lt in_range. absurd (omega arith)
  pairs_flat (n ∷ ns) rising =
      pairs_append R (f n) (flat_map f ns) (each n) (pairs_flat ns rising.1)
      (All-weaker (Q n) (λ a. All (R a) (flat_map f ns)) (λ a q. after_first n a q ns rising.0) (f n) (told n))

-- ---- the reroutes

-- what is told of a point is of it
abbrev IsAt : ℕ → ℕ → Reroute → Type 0
IsAt x y r = (r.dest ≡ x) × (r.point ≡ y)

told_at : (old new : Option ExcerptValue) (x y : ℕ) → All (IsAt x y) (reroute_between old new x y)
told_at old new x y = cond_both (is_same_choice (choice_of old y) (choice_of new y)) [] (reroute_of old new x y ∷ []) (All (IsAt x y)) (λ same. All-nil (IsAt x y)) (λ other. All-cons (IsAt x y) (reroute_of old new x y) [] (refl, refl) (All-nil (IsAt x y)))

told_once : (old new : Option ExcerptValue) (x y : ℕ) → AllPairs ComesBefore (reroute_between old new x y)
told_once old new x y = cond_both (is_same_choice (choice_of old y) (choice_of new y)) [] (reroute_of old new x y ∷ []) (AllPairs ComesBefore) (λ same i j d lt in_range. absurd (omega arith)) (λ other i j d lt in_range. absurd (omega arith))

told_of_dest : (old new : Option ExcerptValue) (x : ℕ) → All (λ r. r.dest ≡ x) (reroutes_between old new x)
told_of_dest old new x = all_flat (λ r. r.dest ≡ x) (reroute_between old new x) (λ y. All-weaker (IsAt x y) (λ r. r.dest ≡ x) (λ r at. at.0) (reroute_between old new x y) (told_at old new x y)) (both (points old) (points new))

module _ (old new : Network) (valid : IsValidNet new) where
  points_up : (x : ℕ) → IsRising (λ (n : ℕ). n) (points (excerpt_at new x))
  points_up x = go (plan_at new.plans x) refl
    where
      go : (o : Option Plan) → plan_at new.plans x ≡ o → IsRising (λ (n : ℕ). n) (points (option_map (excerpt_in new) o))
      go None is = tt
      go (Some plan) is = points_rise (excerpt_in new plan) (extract_right new valid x plan is)

  rising_towards : (x : ℕ) → AllPairs ComesBefore (reroutes_between (excerpt_at old x) (excerpt_at new x) x)
  rising_towards x =
      let one : Option ExcerptValue = excerpt_at old x in
      let other : Option ExcerptValue = excerpt_at new x in
      pairs_flat ComesBefore (IsAt x) (reroute_between one other x) (told_once one other x) (told_at one other x)
      (λ n m a b lt at next. inr (at.0 ∙ sym next.0, rw (at.1, next.1) lt)) (both (points one) (points other)) (both_rise (points one) (points other) (points_up x))

  rising : AllPairs ComesBefore (reroutes old new)
  rising =
      pairs_flat ComesBefore (λ x r. r.dest ≡ x) (λ x. reroutes_between (excerpt_at old x) (excerpt_at new x) x) rising_towards (λ x. told_of_dest (excerpt_at old x) (excerpt_at new x) x)
      (λ n m a b lt at next. inl (rw (at, next) lt)) (both (dests old) (dests new)) (both_rise (dests old) (dests new) (dests_rise new valid.plans_rise))

sound_at : (old new : Network) (x y : ℕ) → All (IsMove old new) (reroute_between (excerpt_at old x) (excerpt_at new x) x y)
sound_at old new x y =
    let one : Option Choice = choice_of (excerpt_at old x) y in
    let other : Option Choice = choice_of (excerpt_at new x) y in
    let r : Reroute = reroute_of (excerpt_at old x) (excerpt_at new x) x y in
    cond_both (is_same_choice one other) [] (r ∷ []) (All (IsMove old new)) (λ same. All-nil (IsMove old new))
    (λ differ. All-cons (IsMove old new) r [] (record { before = refl; after = refl; differ = λ e. let same : is_same_choice one other ≡ true = (choices_decide one other).1 e in cc }) (All-nil (IsMove old new)))

sound : (old new : Network) → All (IsMove old new) (reroutes old new)
sound old new =
    all_flat (IsMove old new) (λ x. reroutes_between (excerpt_at old x) (excerpt_at new x) x)
    (λ x. all_flat (IsMove old new) (reroute_between (excerpt_at old x) (excerpt_at new x) x) (sound_at old new x) (both (points (excerpt_at old x)) (points (excerpt_at new x))))
    (both (dests old) (dests new))

module _ (old new : Network) (x y : ℕ) (differ : choice_of (excerpt_at old x) y ≢ choice_of (excerpt_at new x) y) where
  -- there is a choice before or after
  either : (P Q : Type 0) → ((c : Choice) → choice_of (excerpt_at old x) y ≡ Some c → P) → ((c : Choice) → choice_of (excerpt_at new x) y ≡ Some c → Q) → P ⊎ Q
  either P Q first second = go (choice_of (excerpt_at old x) y) refl (choice_of (excerpt_at new x) y) refl
    where
      go : (c : Option Choice) → choice_of (excerpt_at old x) y ≡ c → (d : Option Choice) → choice_of (excerpt_at new x) y ≡ d → P ⊎ Q
      go (Some c) one d other = inl (first c one)
      go None one (Some d) other = inr (second d other)
      go None one None other = absurd (differ (one ∙ sym other))

  there : Contains (reroute_between (excerpt_at old x) (excerpt_at new x) x y) (reroute_of (excerpt_at old x) (excerpt_at new x) x y)
  there =
      let other : is_same_choice (choice_of (excerpt_at old x) y) (choice_of (excerpt_at new x) y) ≡ false
      = false_from_ne_true _ (λ same. differ ((choices_decide (choice_of (excerpt_at old x) y) (choice_of (excerpt_at new x) y)).0 same)) in
      rw other (0, omega arith, refl)

  complete : Contains (reroutes old new) (reroute_of (excerpt_at old x) (excerpt_at new x) x y)
  complete =
      let r : Reroute = reroute_of (excerpt_at old x) (excerpt_at new x) x y in
      contains_flat (λ z. reroutes_between (excerpt_at old z) (excerpt_at new z) z) (both (dests old) (dests new)) x r
      (both_has (dests old) (dests new) x (either _ _ (dest_found old x y) (dest_found new x y)))
      (contains_flat (reroute_between (excerpt_at old x) (excerpt_at new x) x) (both (points (excerpt_at old x)) (points (excerpt_at new x))) y r
      (both_has (points (excerpt_at old x)) (points (excerpt_at new x)) y (either _ _ (point_found (excerpt_at old x) y) (point_found (excerpt_at new x) y))) there)

-- the reroutes are each point and destination whose choice differs, and no other, in order
pub each_move : (old new : Network) → IsValidNet new → IsEachMove old new (reroutes old new)
each_move old new valid = record { sound = sound old new; complete = complete old new; rising = rising old new valid }
