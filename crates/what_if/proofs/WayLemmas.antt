-- A status is one that is wanted exactly if a way of the classes that lead to it goes to the destination.
use Rattle.std.proofs.Common.{◌≡◌, ◌≢◌, ℕ, zero, suc, ◌+◌, ◌<◌, ◌≤◌, ◌++◌, List, [], ◌∷◌, Option, Some, None, All, map, cond, eqb, take, Bool, true, false, not, ◌||◌, refl, sym, ap, ◌∙◌, arith, inl, inr, subst}
use Rattle.std.specs.List.{Contains, list_any}
use Rattle.std.proofs.lemmas.Bool.{eqb-true, eq-eqb, or_cases, or_left, or_right, true≢false}
use Rattle.std.proofs.lemmas.List.Elements.{All-head, All-tail, All-nil, All-cons, All-weaker, All-contains, All-contains_itself, Contains-append_cases, Contains-append_left}
use Rattle.std.proofs.lemmas.List.Folds.{list_any-append}
use Rattle.route_choice.specs.declared.choices.Far.{Far}
use Rattle.route_choice.specs.declared.choices.Far.TheVariants.{Allowed, Restricted, Prohibited}
use Rattle.route_choice.specs.declared.choices.Choice.{Choice}
use Rattle.route_choice.specs.Routes.{Offer, goodness, same_far, better_of, best_in, best, has_via, direct_status, no_choice, lowest, direct, choose}
use Rattle.net_items.specs.declared.lists.Row.{Row}
use Rattle.net_items.specs.Lookups.{concat_vias, vias_of}
use Rattle.link_sets.specs.Availability.{connected}
use Rattle.profile.specs.Status.{Source, source_row, source_rank, offer, offers, mate_offer, status}
use Rattle.profile.specs.Valid.{IsVia, IsValidRow, IsValidSource}
use Rattle.profile.specs.Walk as walk
use Rattle.profile.specs.Walk.{Walk}
use Rattle.profile.proofs.UnfoldingLemmas.{row_valid, rank_is, via_lower, status_is}
use Rattle.profile.proofs.ChoiceLemmas.{choose_cases}
use Rattle.profile.proofs.SettledLemmas.{status_of_dest, status_of_row, status_can_stand}
use Rattle.profile.proofs.WalkLemmas.{reached_walk, walk_reached}
use Rattle.what_if.specs.declared.wanted.Wanted.{Wanted}
use Rattle.what_if.specs.declared.wanted.Wanted.TheVariants as want
use Rattle.what_if.specs.Mending.{meets, is_strict}

-- the vias of the classes that lead to what is wanted: if that is strict, of the first alone
abbrev pub counted : Bool → Row → List ℕ
counted strict row = concat_vias (cond strict (take 1 row.classes) row.classes)

-- a way from a point to the destination over available sets, along these vias and, unless that is strict, at most one mate in a row; `may` tells whether its first hop
-- may go to the mate
pub data Way (src : Source) (strict : Bool) : Bool → ℕ → Type 0 where
  arrive : {may : Bool} {y : ℕ} → y ≡ src.dest → Way src strict may y
  by_via : {may : Bool} {y z : ℕ} (row : Row) → source_row src y ≡ Some row → Contains (counted strict row) z → connected src.sets row.point z ≡ true → Way src strict true z → Way src strict may y
  by_mate : {y : ℕ} (row mate : Row) → strict ≡ false → source_row src y ≡ Some row → row.mate ≡ true → src.mate_of row.point ≡ Some mate.point → source_row src mate.point ≡ Some mate
      → connected src.sets row.point mate.point ≡ true → Way src strict false mate.point → Way src strict true y

-- ---- where not only the first class leads to it, a way is a walk

-- a row's vias, in one list and class by class
any_vias : (z : ℕ) (classes : List (List ℕ)) → list_any (λ v. eqb v z) (concat_vias classes) ≡ list_any (λ vias. list_any (λ v. eqb v z) vias) classes
any_vias z [] = refl
any_vias z (vias ∷ classes) = list_any-append (λ v. eqb v z) vias (concat_vias classes) ∙ ap (λ b. list_any (λ v. eqb v z) vias || b) (any_vias z classes)

-- one that is found is there
contains_any : (zs : List ℕ) (z : ℕ) → list_any (λ v. eqb v z) zs ≡ true → Contains zs z
contains_any zs z there = go (Contains zs) zs (All-contains_itself zs) there
  where
    go : (P : ℕ → Type 0) (vs : List ℕ) → All P vs → list_any (λ v. eqb v z) vs ≡ true → P z
    go P [] each e = absurd (true≢false (sym e))
    go P (v ∷ vs) each e = elim (or_cases (eqb v z) (list_any (λ w. eqb w z) vs) e) [
      | inl here ↦ subst P (eqb-true v z here) (All-head P v vs each)
      | inr later ↦ go P vs (All-tail P v vs each) later
    ]

-- each passes where one passes
module _ {X : Type 0} (p : X → Bool) where
  any_each : (xs : List X) → All (λ x. p x ≡ true → list_any p xs ≡ true) xs
  any_each [] = All-nil (λ x. p x ≡ true → false ≡ true)
  any_each (x ∷ xs) =
      All-cons (λ y. p y ≡ true → list_any p (x ∷ xs) ≡ true) x xs (λ e. or_left (p x) (list_any p xs) e)
      (All-weaker (λ y. p y ≡ true → list_any p xs ≡ true) (λ y. p y ≡ true → list_any p (x ∷ xs) ≡ true) (λ y rest e. or_right (p x) (list_any p xs) (rest e)) xs (any_each xs))

any_contains : (zs : List ℕ) (z : ℕ) → Contains zs z → list_any (λ v. eqb v z) zs ≡ true
any_contains zs z there = All-contains (λ v. eqb v z ≡ true → list_any (λ v. eqb v z) zs ≡ true) zs z (any_each (λ v. eqb v z) zs) there (eq-eqb z z refl)

way_of_walk : (src : Source) {may : Bool} {y : ℕ} → Walk src may y → Way src false may y
way_of_walk src (walk.arrive e) = arrive e
way_of_walk src (walk.by_via {z = z} row planned via joined rest) = by_via row planned (contains_any (vias_of row) z (any_vias z row.classes ∙ via)) joined (way_of_walk src rest)
way_of_walk src (walk.by_mate row mate planned flag paired mate_planned joined rest) = by_mate row mate refl planned flag paired mate_planned joined (way_of_walk src rest)

walk_of_way : (src : Source) {may : Bool} {y : ℕ} → Way src false may y → Walk src may y
walk_of_way src (arrive e) = walk.arrive e
walk_of_way src (by_via {z = z} row planned via joined rest) = walk.by_via row planned (sym (any_vias z row.classes) ∙ any_contains (vias_of row) z via) joined (walk_of_way src rest)
walk_of_way src (by_mate row mate e planned flag paired mate_planned joined rest) = walk.by_mate row mate planned flag paired mate_planned joined (walk_of_way src rest)

-- ---- with the option a status is allowed exactly if the first class offers it

is_allowed : (f : Far) → same_far f Allowed ≡ true → f ≡ Allowed
is_allowed Allowed e = refl
is_allowed Restricted e = absurd (true≢false (sym e))
is_allowed Prohibited e = absurd (true≢false (sym e))

-- nothing is better than allowed
top : (f : Far) → goodness f ≤ 2
top Allowed = omega arith
top Restricted = omega arith
top Prohibited = omega arith

allowed_first : (x : Far) → better_of Allowed x ≡ Allowed
allowed_first Allowed = refl
allowed_first Restricted = refl
allowed_first Prohibited = refl

allowed_second : (x : Far) → better_of x Allowed ≡ Allowed
allowed_second Allowed = refl
allowed_second Restricted = refl
allowed_second Prohibited = refl

best_allowed : (class : List Offer) → has_via Allowed class ≡ true → best_in class ≡ Allowed
best_allowed [] e = absurd (true≢false (sym e))
best_allowed (o ∷ os) e = elim (or_cases (same_far o.far Allowed) (has_via Allowed os) e) [
  | inl here ↦ ap (λ f. better_of f (best_in os)) (is_allowed o.far here) ∙ allowed_first (best_in os)
  | inr later ↦ ap (better_of o.far) (best_allowed os later) ∙ allowed_second o.far
]

-- the first class makes the direct status allowed
direct_allowed : (class : List Offer) (classes : List (List Offer)) → has_via Allowed class ≡ true → direct true (class ∷ classes) ≡ Allowed
direct_allowed class classes e =
    let is : best (class ∷ classes) ≡ Allowed = ap (λ f. better_of f (best classes)) (best_allowed class e) ∙ allowed_first (best classes) in
    subst (λ b. (cond (same_far b Prohibited) no_choice (lowest true b 1 (class ∷ classes))).status ≡ Allowed) (sym is) (rw e refl)

chosen_allowed : (class : List Offer) (classes : List (List Offer)) (mate : Option Offer) → has_via Allowed class ≡ true → (choose true (class ∷ classes) mate).status ≡ Allowed
chosen_allowed class classes mate e = elim (choose_cases true (class ∷ classes) mate) [
  | inl w ↦
      let is : best (class ∷ classes) ≡ Allowed = ap (λ f. better_of f (best classes)) (best_allowed class e) ∙ allowed_first (best classes) in
      absurd (omega (arith, w.2, ap goodness is, top w.0.far))
  | inr d ↦ ap (λ (c : Choice). c.status) d ∙ direct_allowed class classes e
]

-- no later class does
later_status : (b : Far) (k : ℕ) → 2 ≤ k → direct_status true b k ≢ Allowed
later_status Allowed k high e = go (eqb k 1) refl e
  where
    go : (t : Bool) → eqb k 1 ≡ t → cond t Allowed Restricted ≡ Allowed → ⊥
    go true same f = omega (arith, high, eqb-true k 1 same)
    go false other f = cc
later_status Restricted k high e = cc
later_status Prohibited k high e = cc

lowest_later : (b : Far) (k : ℕ) (classes : List (List Offer)) → 2 ≤ k → (lowest true b k classes).status ≢ Allowed
lowest_later b k [] high e = cc
lowest_later b k (class ∷ classes) high e = go (has_via b class) refl (lowest_later b (k + 1) classes (omega (arith, high)))
  where
    go : (t : Bool) → has_via b class ≡ t → (lowest true b (k + 1) classes).status ≢ Allowed → ⊥
    go true f later = later_status b k high (rw f at e)
    go false f later = later (rw f at e)

allowed_direct : (class : List Offer) (classes : List (List Offer)) → direct true (class ∷ classes) ≡ Allowed → has_via Allowed class ≡ true
allowed_direct class classes e = by (best (class ∷ classes)) e
  where
    none : (b : Far) (t : Bool) → has_via b class ≡ t → (lowest true b 1 (class ∷ classes)).status ≡ Allowed → (direct_status true b 1 ≡ Allowed → ⊥) → ⊥
    none b true f g low = low (rw f at g)
    none b false f g low = lowest_later b 2 classes (omega arith) (rw f at g)

    first : (t : Bool) → has_via Allowed class ≡ t → (lowest true Allowed 1 (class ∷ classes)).status ≡ Allowed → has_via Allowed class ≡ true
    first true f g = f
    first false f g = absurd (lowest_later Allowed 2 classes (omega arith) (rw f at g))

    by : (b : Far) → (cond (same_far b Prohibited) no_choice (lowest true b 1 (class ∷ classes))).status ≡ Allowed → has_via Allowed class ≡ true
    by Allowed g = first (has_via Allowed class) refl g
    by Restricted g = absurd (none Restricted (has_via Restricted class) refl g (λ f. (let no : Restricted ≡ Allowed = f in cc)))
    by Prohibited g = let no : Prohibited ≡ Allowed = g in cc

allowed_chosen : (classes : List (List Offer)) (mate : Option Offer) → (choose true classes mate).status ≡ Allowed → direct true classes ≡ Allowed
allowed_chosen classes mate e = elim (choose_cases true classes mate) [
  | inl w ↦ let no : Restricted ≡ Allowed = sym (ap (λ (c : Choice). c.status) w.3) ∙ e in cc
  | inr d ↦ sym (ap (λ (c : Choice). c.status) d) ∙ e
]

-- a via of the class that offers it
offered_allowed : (P : ℕ → Type 0) (F : ℕ → Offer) (zs : List ℕ) → All P zs → has_via Allowed (map F zs) ≡ true → (z : ℕ) × P z × (same_far (F z).far Allowed ≡ true)
offered_allowed P F [] each e = absurd (true≢false (sym e))
offered_allowed P F (z ∷ zs) each e = elim (or_cases (same_far (F z).far Allowed) (has_via Allowed (map F zs)) e) [
  | inl here ↦ (z, All-head P z zs each, here)
  | inr later ↦ offered_allowed P F zs (All-tail P z zs each) later
]

allowed_offered : (F : ℕ → Offer) (zs : List ℕ) → All (λ z. same_far (F z).far Allowed ≡ true → has_via Allowed (map F zs) ≡ true) zs
allowed_offered F [] = All-nil (λ z. same_far (F z).far Allowed ≡ true → false ≡ true)
allowed_offered F (z ∷ zs) =
    All-cons (λ v. same_far (F v).far Allowed ≡ true → has_via Allowed (map F (z ∷ zs)) ≡ true) z zs (λ e. or_left (same_far (F z).far Allowed) (has_via Allowed (map F zs)) e)
    (All-weaker (λ v. same_far (F v).far Allowed ≡ true → has_via Allowed (map F zs) ≡ true) (λ v. same_far (F v).far Allowed ≡ true → has_via Allowed (map F (z ∷ zs)) ≡ true)
    (λ v rest e. or_right (same_far (F z).far Allowed) (has_via Allowed (map F zs)) (rest e)) zs (allowed_offered F zs))

module _ (src : Source) (valid : IsValidSource src) where
  -- what is offered as allowed is so over an available set
  offer_allowed : (y z : ℕ) → same_far (offer src (status src) y z).far Allowed ≡ true → (connected src.sets y z ≡ true) × (status src z ≡ Allowed)
  offer_allowed y z e = go (connected src.sets y z) refl
    where
      go : (b : Bool) → connected src.sets y z ≡ b → (connected src.sets y z ≡ true) × (status src z ≡ Allowed)
      go true up = (up, is_allowed (status src z) (rw up at e))
      go false down = let no : false ≡ true = rw down at e in absurd (true≢false (sym no))

  -- a via of the first class, allowed and joined
  record HasFirst (row : Row) : Type 0 where
    via : ℕ
    is_via : IsVia src row via
    there : Contains (counted true row) via
    joined : connected src.sets row.point via ≡ true
    allowed : status src via ≡ Allowed

  row_first : (row : Row) → IsValidRow src row → direct true (offers src (status src) row) ≡ Allowed → HasFirst row
  row_first row ok e = go row.classes refl
    where
      go : (classes : List (List ℕ)) → row.classes ≡ classes → HasFirst row
      go [] none = let no : Prohibited ≡ Allowed = rw none at e in cc
      go (class ∷ classes) is =
          let F : ℕ → Offer = offer src (status src) row.point in
          let first : direct true (map F class ∷ map (map F) classes) ≡ Allowed = rw is at e in
          let vias : All (All (IsVia src row)) (class ∷ classes) = subst (All (All (IsVia src row))) is ok.vias in
          let each : All (λ z. Contains class z × IsVia src row z) class = both class (All-contains_itself class) (All-head (All (IsVia src row)) class classes vias) in
          let w = offered_allowed (λ z. Contains class z × IsVia src row z) F class each (allowed_direct (map F class) (map (map F) classes) first) in
          let o = offer_allowed row.point w.0 w.2 in
          record {
            via = w.0;
            is_via = w.1.1;
            there = subst (λ (cs : List (List ℕ)). Contains (concat_vias (take 1 cs)) w.0) (sym is) (Contains-append_left class [] w.0 w.1.0);
            joined = o.0;
            allowed = o.1;
          }
        where
          both : (zs : List ℕ) → All (Contains class) zs → All (IsVia src row) zs → All (λ z. Contains class z × IsVia src row z) zs
          both [] here leads = All-nil (λ z. Contains class z × IsVia src row z)
          both (z ∷ zs) here leads =
              All-cons (λ z. Contains class z × IsVia src row z) z zs (All-head (Contains class) z zs here, All-head (IsVia src row) z zs leads)
              (both zs (All-tail (Contains class) z zs here) (All-tail (IsVia src row) z zs leads))

  module _ (option : src.tfr ≡ true) where
    way_below : (n y : ℕ) → source_rank src y < n → status src y ≡ Allowed → Way src true true y
    way_below zero y low up = absurd (omega (arith, low))
    way_below (suc n) y low up = go (eqb y src.dest) refl (source_row src y) refl (λ z lower up. way_below n z (omega (arith, lower, low)) up)
      where
        go : (b : Bool) → eqb y src.dest ≡ b → (o : Option Row) → source_row src y ≡ o → ((z : ℕ) → source_rank src z < source_rank src y → status src z ≡ Allowed → Way src true true z) → Way src true true y
        go true t o e vias = arrive (eqb-true y src.dest t)
        go false t None e vias =
            let none : status src y ≡ Prohibited = status_is src valid y ∙ rw (t, e) refl in
            let no : Prohibited ≡ Allowed = sym none ∙ up in
            cc
        go false t (Some row) e vias =
            let r = row_valid src valid y row e in
            let rank = rank_is src valid y row e in
            let chosen : (choose src.tfr (offers src (status src) row) (mate_offer src (status src) row)).status ≡ Allowed = sym (status_of_row src valid y row e) ∙ up in
            let first = row_first row r.1 (allowed_chosen (offers src (status src) row) (mate_offer src (status src) row)
            (subst (λ b. (choose b (offers src (status src) row) (mate_offer src (status src) row)).status ≡ Allowed) option chosen)) in
            by_via row e first.there first.joined (vias first.via (omega (arith, via_lower src valid row first.via r.1 first.is_via, rank)) first.allowed)

    way_allowed : {may : Bool} {y : ℕ} → Way src true may y → status src y ≡ Allowed
    way_allowed (arrive e) = ap (status src) e ∙ status_of_dest src valid
    way_allowed {y = y} (by_via {z = z} row planned via joined rest) = status_of_row src valid y row planned ∙ go row.classes refl (way_allowed rest)
      where
        F : ℕ → Offer
        F = offer src (status src) row.point

        mate : Option Offer
        mate = mate_offer src (status src) row

        go : (classes : List (List ℕ)) → row.classes ≡ classes → status src z ≡ Allowed → (choose src.tfr (map (map F) row.classes) mate).status ≡ Allowed
        go [] none allowed = let there : Contains {X = ℕ} [] z = subst (λ (cs : List (List ℕ)). Contains (concat_vias (take 1 cs)) z) none via in absurd (omega (arith, there.1))
        go (class ∷ classes) is allowed =
            let there : Contains (class ++ []) z = subst (λ (cs : List (List ℕ)). Contains (concat_vias (take 1 cs)) z) is via in
            let here : Contains class z = elim (Contains-append_cases class [] z there) [
              | inl h ↦ h
              | inr none ↦ absurd (omega (arith, none.1))
            ] in
            let told : same_far (F z).far Allowed ≡ true = rw (joined, allowed) refl in
            let offers_it : has_via Allowed (map F class) ≡ true = All-contains (λ v. same_far (F v).far Allowed ≡ true → has_via Allowed (map F class) ≡ true) class z (allowed_offered F class) here told in
            subst (λ b. (choose b (map (map F) row.classes) mate).status ≡ Allowed) (sym option)
            (subst (λ (cs : List (List ℕ)). (choose true (map (map F) cs) mate).status ≡ Allowed) (sym is) (chosen_allowed (map F class) (map (map F) classes) mate offers_it))
    way_allowed (by_mate row mate e planned flag paired mate_planned joined rest) = absurd (true≢false e)

  -- ---- both

  -- what isn't prohibited is allowed without the option
  unrestricted : src.tfr ≡ false → (y : ℕ) → status src y ≢ Prohibited → status src y ≡ Allowed
  unrestricted off y up = go (status src y) refl
    where
      go : (f : Far) → status src y ≡ f → status src y ≡ Allowed
      go Allowed e = e
      go Restricted e = absurd ((status_can_stand src valid y).stands off e)
      go Prohibited e = absurd (up e)

  -- THE WAY LAW
  pub met_way : (wanted : Wanted) (y : ℕ) → meets wanted (status src y) ≡ true → Way src (is_strict src wanted) true y
  met_way want.Reached y met = way_of_walk src (reached_walk src valid y (λ e. (let no : false ≡ true = rw e at met in true≢false (sym no))))
  met_way want.Allowed y met = go src.tfr refl
    where
      is : status src y ≡ Allowed
      is = is_allowed (status src y) met

      go : (b : Bool) → src.tfr ≡ b → Way src src.tfr true y
      go true on = subst (λ b. Way src b true y) (sym on) (way_below on (suc (source_rank src y)) y (omega arith) is)
      go false off = subst (λ b. Way src b true y) (sym off) (way_of_walk src (reached_walk src valid y (λ e. (let no : Allowed ≡ Prohibited = sym is ∙ e in cc))))

  pub way_met : (wanted : Wanted) (y : ℕ) → Way src (is_strict src wanted) true y → meets wanted (status src y) ≡ true
  way_met want.Reached y way = go (status src y) refl
    where
      up : status src y ≢ Prohibited
      up = walk_reached src valid y (walk_of_way src way)

      go : (f : Far) → status src y ≡ f → not (same_far (status src y) Prohibited) ≡ true
      go Allowed e = rw e refl
      go Restricted e = rw e refl
      go Prohibited e = absurd (up e)
  way_met want.Allowed y way = go src.tfr refl
    where
      go : (b : Bool) → src.tfr ≡ b → same_far (status src y) Allowed ≡ true
      go true on = let is = way_allowed on (subst (λ b. Way src b true y) on way) in rw is refl
      go false off = let is = unrestricted off y (walk_reached src valid y (walk_of_way src (subst (λ b. Way src b true y) off way))) in rw is refl
