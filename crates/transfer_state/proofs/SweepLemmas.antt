-- The choices of a table, rank by rank.
use Rattle.std.proofs.Common.{◌≡◌, ◌≢◌, ℕ, zero, suc, ◌+◌, ◌<◌, ◌≤◌, List, [], ◌∷◌, ◌++◌, Option, Some, None, All, get_or, set, map, cond, eqb, Bool, true, false, refl, sym, ap, ◌∙◌, arith, inl, inr, ◌⊎◌, subst, length, take, take_all, drop, replicate, slice_get, below_more}
use Rattle.std.proofs.lemmas.List.{get_or-set_other, get_or-set_same, get_or_read, length-set, length-replicate, take-append-le}
use Rattle.std.proofs.lemmas.List.Elements.{All-weaker}
use Rattle.std.proofs.lemmas.Bool.{eq-eqb, ne_eqb, cases_eq, true≢false}
use Rattle.route_choice.specs.declared.choices.Far.{Far}
use Rattle.route_choice.specs.declared.choices.Far.TheVariants.{Allowed, Prohibited}
use Rattle.net_items.specs.declared.lists.Row.{Row}
use Rattle.route_choice.specs.Routes.{Offer, offered_in, offered}
use Rattle.std.specs.Prelude.{find, slice_get, slice_index_or}
use Rattle.std.proofs.lemmas.Option.{same_Some, slice_get_within}
use Rattle.profile.specs.Status.{Source, source_row, source_rank, choice_by, choice, status}
use Rattle.transfer_state.specs.Kept.{KeptValue, kept}
use Rattle.transfer_state.specs.Told.{far_at, HasRanks, KnowsBelow, TellsBelow}
use Rattle.profile.specs.Valid.{IsValidSource, IsValidRow, IsSmall}
use Rattle.link_sets.proofs.ListLemmas.{find_gives}
use Rattle.profile.proofs.UnfoldingLemmas.{row_valid, rank_is, choice_same, status_is}
use Rattle.profile.proofs.PlacingLemmas.{row_at_place}
use Rattle.std.specs.List.{AllByRecursion}
use Rattle.profile.proofs.SettledLemmas.{status_of_row}

-- a slice of a whole list is written back
pub written_back : {X : Type 0} (n : ℕ) (new old : List X) → length new ≡ n → take n (new ++ drop (length new) old) ≡ new
written_back n new old long = take-append-le n new (drop (length new) old) (omega arith) ∙ take_all n new (omega arith)

-- what holds of each element holds of the one at a place
pub at_index : {X : Type 0} (P : X → Type 0) (xs : List X) (i : ℕ) (d : X) → AllByRecursion P xs → i < length xs → P (get_or xs i d)
at_index P [] i d all low = absurd (omega arith)
at_index P (x ∷ xs) zero d all low = all.0
at_index P (x ∷ xs) (suc i) d all low = at_index P xs i d all.1 (omega arith)

-- classes whose offers stand in their places
pub offered_from_each : (classes : List (List ℕ)) (fars : List (List Far)) (F : List ℕ → List Offer) (dv : List ℕ) (df : List Far) → length classes ≤ length fars
    → ((k : ℕ) → k < length classes → offered_in (get_or classes k dv) (get_or fars k df) ≡ F (get_or classes k dv)) → offered classes fars ≡ map F classes
offered_from_each [] fars F dv df l each = refl
offered_from_each (c ∷ cs) [] F dv df l each = absurd (omega arith)
offered_from_each (c ∷ cs) (f ∷ fs) F dv df l each =
    let head : offered_in c f ≡ F c = each 0 (omega arith) in
    let tail : offered cs fs ≡ map F cs = offered_from_each cs fs F dv df (omega arith) (λ k low. each (suc k) (omega arith)) in
    cc

-- one class more stands in its place
pub offered_at_more : (classes : List (List ℕ)) (fars : List (List Far)) (F : List ℕ → List Offer) (i : ℕ) (vias : List ℕ) (fs : List Far) → i < length classes → i < length fars
    → vias ≡ get_or classes i vias → offered_in vias fs ≡ F vias
    → ((k : ℕ) → k < i → offered_in (get_or classes k []) (get_or fars k []) ≡ F (get_or classes k []))
    → (k : ℕ) → k < i + 1 → offered_in (get_or classes k []) (get_or (set fars i fs) k []) ≡ F (get_or classes k [])
offered_at_more classes fars F i vias fs lc lf at here below =
    below_more _ _
    (λ k low. let ne : k ≢ i = omega arith in rw (get_or-set_other fars i k fs [] ne) (below k low))
    (let is : vias ≡ get_or classes i [] = get_or_read classes i vias lc at [] in
    rw (get_or-set_same fars i fs [] lf) (subst (λ (v : List ℕ). offered_in v fs ≡ F v) is here))

-- a found row has a place
pub found_place : (rows : List Row) (z : ℕ) (row : Row) → find (λ r. eqb r.point z) rows ≡ Some row → (i : ℕ) × (slice_get rows i ≡ Some row)
found_place [] z row e = cc
found_place (r ∷ rs) z row e = go (eqb r.point z) refl (found_place rs z row)
  where
    go : (b : Bool) → eqb r.point z ≡ b → (find (λ r. eqb r.point z) rs ≡ Some row → (i : ℕ) × (slice_get rs i ≡ Some row)) → (i : ℕ) × (slice_get (r ∷ rs) i ≡ Some row)
    go true t rec = (0, rw t at e)
    go false t rec = let later = rec (rw t at e) in (suc later.0, later.1)

-- a table of one status
pub far_of_one : (k : ℕ) (z : ℕ) → far_at (replicate k Prohibited) z ≡ Prohibited
far_of_one zero z = refl
far_of_one (suc k) zero = refl
far_of_one (suc k) (suc z) = far_of_one k z

-- a table with one status written tells it
pub far_at-set_same : (fars : List Far) (i : ℕ) (f : Far) → i < length fars → far_at (set fars i f) i ≡ f
far_at-set_same [] i f within = absurd (omega arith)
far_at-set_same (g ∷ gs) zero f within = refl
far_at-set_same (g ∷ gs) (suc i) f within = far_at-set_same gs i f (omega arith)

-- and else what it told
pub far_at-set_other : (fars : List Far) (i z : ℕ) (f : Far) → z ≢ i → far_at (set fars i f) z ≡ far_at fars z
far_at-set_other [] i z f ne = refl
far_at-set_other (g ∷ gs) zero zero f ne = absurd (ne refl)
far_at-set_other (g ∷ gs) zero (suc z) f ne = refl
far_at-set_other (g ∷ gs) (suc i) zero f ne = refl
far_at-set_other (g ∷ gs) (suc i) (suc z) f ne = far_at-set_other gs i z f (λ e. ne (ap suc e))

-- a table that allows the destination alone
pub far_of_dest : (k d z : ℕ) → d < k → far_at (set (replicate k Prohibited) d Allowed) z ≡ cond (eqb z d) Allowed Prohibited
far_of_dest k d z within = elim (cases_eq z d) [
  | inl e ↦ ap (far_at (set (replicate k Prohibited) d Allowed)) e ∙ (far_at-set_same (replicate k Prohibited) d Allowed (omega (arith, length-replicate k Prohibited, within)) ∙ rw (eq-eqb z d e) refl)
  | inr ne ↦ far_at-set_other (replicate k Prohibited) d z Allowed ne ∙ (far_of_one k z ∙ rw (ne_eqb z d ne) refl)
]

pub slice_get-set_other : {X : Type 0} (xs : List X) (i k : ℕ) (y : X) → k ≢ i → slice_get (set xs i y) k ≡ slice_get xs k
slice_get-set_other [] i k y ne = refl
slice_get-set_other (x ∷ xs) zero zero y ne = absurd (ne refl)
slice_get-set_other (x ∷ xs) zero (suc k) y ne = refl
slice_get-set_other (x ∷ xs) (suc i) zero y ne = refl
slice_get-set_other (x ∷ xs) (suc i) (suc k) y ne = slice_get-set_other xs i k y (λ e. ne (ap suc e))

pub slice_get-set_same : {X : Type 0} (xs : List X) (i : ℕ) (y : X) → i < length xs → slice_get (set xs i y) i ≡ Some y
slice_get-set_same [] i y l = absurd (omega arith)
slice_get-set_same (x ∷ xs) zero y l = refl
slice_get-set_same (x ∷ xs) (suc i) y l = slice_get-set_same xs i y (omega arith)

module _ (src : Source) (valid : IsValidSource src) where
  -- a row's choice by a table that tells the lower ranks is the definition's
  pub choice_in_place : (fars : List Far) (i : ℕ) (row : Row) → slice_get src.rows i ≡ Some row → TellsBelow src fars row.rank → choice_by src (far_at fars) row ≡ choice src row
  choice_in_place fars i row at tells =
      let there = row_at_place src valid i row at in
      choice_same src valid (far_at fars) (status src) row (row_valid src valid row.point row there).1 (record { agree = tells })

  -- the status of a row's point is that of its choice
  pub status_in_place : (i : ℕ) (row : Row) → slice_get src.rows i ≡ Some row → status src row.point ≡ (choice src row).status
  status_in_place i row at = status_of_row src valid row.point row (row_at_place src valid i row at)

  -- before any row is looked at, what has no row is told
  first_told : (z : ℕ) → source_rank src z < 1 → cond (eqb z src.dest) Allowed Prohibited ≡ status src z
  first_told z low = go (source_row src z) refl
    where
      go : (o : Option Row) → source_row src z ≡ o → cond (eqb z src.dest) Allowed Prohibited ≡ status src z
      go None e = sym (status_is src valid z ∙ rw e refl)
      go (Some row) e = let ranked = (row_valid src valid z row e).1.ranked in absurd (omega (arith, low, ranked, rank_is src valid z row e))

  pub first_swept : (fars : List Far) (d : ℕ) → d ≡ src.dest → d < 16384 → fars ≡ set (replicate 16384 Prohibited) d Allowed → (length fars ≡ 16384) × TellsBelow src fars 1
  first_swept fars d same small is = (
    ap (length {A = Far}) is ∙ (length-set (replicate 16384 Prohibited) d Allowed ∙ length-replicate 16384 Prohibited),
    λ z low. ap (λ (f : List Far). far_at f z) is ∙ (far_of_dest 16384 d z small ∙ (ap (λ n. cond (eqb z n) Allowed Prohibited) same ∙ first_told z low)),
  )

  pub rows_small : All IsSmall src.rows
  rows_small = All-weaker (IsValidRow src) IsSmall (λ row ok. record { few = ok.few; small = ok.small }) src.rows valid.rows

  -- a choice written in its place keeps those of lower rank
  pub knows_kept : (choices : List KeptValue) (n i : ℕ) (row : Row) (f : KeptValue) → slice_get src.rows i ≡ Some row → n ≤ row.rank → KnowsBelow src choices n → KnowsBelow src (set choices i f) n
  knows_kept choices n i row f at high knows k r there low =
      let other : k ≢ i = λ e. (let same : r ≡ row = same_Some r row (sym there ∙ ap (slice_get src.rows) e ∙ at) in omega (arith, low, high, ap (λ (q : Row). q.rank) same)) in
      slice_get-set_other choices i k f other ∙ knows k r there low

pub found_small : (rows : List Row) (p : Row → Bool) (row : Row) → All IsSmall rows → find p rows ≡ Some row → IsSmall row
found_small rows p row small e = (find_gives p IsSmall rows row small e).1

-- the choices and statuses of lower rank stand, and so do those of rank n in the places before i
pub record IsSwept (src : Source) (choices : List KeptValue) (fars : List Far) (n i : ℕ) : Type 0 where
  pub together : length choices ≡ length src.rows
  pub coded : length fars ≡ 16384
  pub below : KnowsBelow src choices n
  pub here : (k : ℕ) (row : Row) → k < i → slice_get src.rows k ≡ Some row → row.rank ≡ n → slice_get choices k ≡ Some (kept (choice src row))
  pub told : TellsBelow src fars n
  pub told_here : (k : ℕ) (row : Row) → k < i → slice_get src.rows k ≡ Some row → row.rank ≡ n → far_at fars row.point ≡ status src row.point

module _ (src : Source) (valid : IsValidSource src) where
  -- a row of this rank gets its choice, and its status is told
  pub swept_more : (choices : List KeptValue) (fars : List Far) (n i : ℕ) (row : Row) (c : KeptValue) → slice_get src.rows i ≡ Some row → row.rank ≡ n → IsSwept src choices fars n i
      → c ≡ kept (choice_by src (far_at fars) row) → IsSwept src (set choices i c) (set fars row.point c.status) n (i + 1)
  swept_more choices fars n i row c at rank swept is = record {
    together = length-set choices i c ∙ swept.together;
    coded = length-set fars row.point c.status ∙ swept.coded;
    below = knows_kept src valid choices n i row c at (omega arith) swept.below;
    here = λ k r low there same_rank. go k r low there same_rank (cases_eq k i);
    told = λ z low. tell z (swept.told z low);
    told_here = λ k r low there same_rank. elim (cases_eq k i) [
      | inl e ↦ let same : r ≡ row = same_Some r row (sym there ∙ ap (slice_get src.rows) e ∙ at) in written r.point (ap (λ (q : Row). q.point) same)
      | inr ne ↦ tell r.point (swept.told_here k r (omega arith) there same_rank)
    ];
  }
    where
      right : c ≡ kept (choice src row)
      right = is ∙ ap kept (choice_in_place src valid fars i row at (subst (TellsBelow src fars) (sym rank) swept.told))

      within : i < length choices
      within = omega (arith, slice_get_within src.rows i row at, swept.together)

      coded : row.point < length fars
      coded = let small = (row_valid src valid row.point row (row_at_place src valid i row at)).1.coded in omega (arith, small, swept.coded)

      -- the status that is written is that of the point
      written : (z : ℕ) → z ≡ row.point → far_at (set fars row.point c.status) z ≡ status src z
      written z e =
          ap (far_at (set fars row.point c.status)) e
          ∙ (far_at-set_same fars row.point c.status coded
          ∙ (ap (λ (d : KeptValue). d.status) right ∙ (sym (status_in_place src valid i row at) ∙ ap (status src) (sym e))))

      -- what was told still is
      tell : (z : ℕ) → far_at fars z ≡ status src z → far_at (set fars row.point c.status) z ≡ status src z
      tell z was = elim (cases_eq z row.point) [
        | inl e ↦ written z e
        | inr ne ↦ far_at-set_other fars row.point z c.status ne ∙ was
      ]

      go : (k : ℕ) (r : Row) → k < i + 1 → slice_get src.rows k ≡ Some r → r.rank ≡ n → (k ≡ i) ⊎ (k ≢ i) → slice_get (set choices i c) k ≡ Some (kept (choice src r))
      go k r low there same_rank (inl e) =
          let same : row ≡ r = same_Some row r (sym at ∙ ap (slice_get src.rows) (sym e) ∙ there) in
          ap (slice_get (set choices i c)) e ∙ slice_get-set_same choices i c within ∙ ap Some (right ∙ ap (λ (q : Row). kept (choice src q)) same)
      go k r low there same_rank (inr ne) = slice_get-set_other choices i k c ne ∙ swept.here k r (omega arith) there same_rank

  -- a row of another rank is passed
  pub swept_past : (choices : List KeptValue) (fars : List Far) (n i : ℕ) (row : Row) → slice_get src.rows i ≡ Some row → row.rank ≢ n → IsSwept src choices fars n i → IsSwept src choices fars n (i + 1)
  swept_past choices fars n i row at other swept = record {
    together = swept.together;
    coded = swept.coded;
    below = swept.below;
    here = λ k r low there same_rank.
        elim (cases_eq k i) [
          | inl e ↦ absurd (other (passed k r there e ∙ same_rank))
          | inr ne ↦ swept.here k r (omega arith) there same_rank
        ];
    told = swept.told;
    told_here = λ k r low there same_rank.
        elim (cases_eq k i) [
          | inl e ↦ absurd (other (passed k r there e ∙ same_rank))
          | inr ne ↦ swept.told_here k r (omega arith) there same_rank
        ];
  }
    where
      passed : (k : ℕ) (r : Row) → slice_get src.rows k ≡ Some r → k ≡ i → row.rank ≡ r.rank
      passed k r there e = ap (λ (q : Row). q.rank) (same_Some row r (sym at ∙ ap (slice_get src.rows) (sym e) ∙ there))

  -- after all places the next rank is known
  pub swept_all : (choices : List KeptValue) (fars : List Far) (n i : ℕ) → IsSwept src choices fars n i → length src.rows ≤ i → KnowsBelow src choices (n + 1)
  swept_all choices fars n i swept all k r there low =
      elim (cases_eq r.rank n) [
        | inl e ↦ swept.here k r (omega (arith, slice_get_within src.rows k r there, all)) there e
        | inr ne ↦ swept.below k r there (omega arith)
      ]

  -- and told
  pub told_all : (choices : List KeptValue) (fars : List Far) (n i : ℕ) → 1 ≤ n → IsSwept src choices fars n i → length src.rows ≤ i → TellsBelow src fars (n + 1)
  told_all choices fars n i ranked swept all z low = go (source_row src z) refl
    where
      go : (o : Option Row) → source_row src z ≡ o → far_at fars z ≡ status src z
      go None e = let none : source_rank src z ≡ 0 = rw e refl in swept.told z (omega (arith, none, ranked))
      go (Some row) e =
          let position = found_place src.rows z row e in
          let point : row.point ≡ z = (row_valid src valid z row e).0 in
          let rank : source_rank src z ≡ row.rank = rank_is src valid z row e in
          elim (cases_eq row.rank n) [
            | inl same ↦ subst (λ y. far_at fars y ≡ status src y) point (swept.told_here position.0 row (omega (arith, slice_get_within src.rows position.0 row position.1, all)) position.1 same)
            | inr ne ↦ swept.told z (omega (arith, low, rank, ne))
          ]

  pub nothing_swept : (choices : List KeptValue) (fars : List Far) (n : ℕ) → length choices ≡ length src.rows → length fars ≡ 16384 → KnowsBelow src choices n → TellsBelow src fars n → IsSwept src choices fars n 0
  nothing_swept choices fars n together coded below told = record {
    together = together;
    coded = coded;
    below = below;
    here = λ k r low there same_rank. absurd (omega arith);
    told = told;
    told_here = λ k r low there same_rank. absurd (omega arith);
  }

  -- where no row has a rank, the next one is known
  pub skipped_below : (choices : List KeptValue) (n : ℕ) → KnowsBelow src choices n → ((i : ℕ) (row : Row) → slice_get src.rows i ≡ Some row → row.rank ≢ n) → KnowsBelow src choices (n + 1)
  skipped_below choices n below none k r there low =
      elim (cases_eq r.rank n) [
        | inl e ↦ absurd (none k r there e)
        | inr ne ↦ below k r there (omega arith)
      ]

  -- and told
  pub skipped_told : (fars : List Far) (n : ℕ) → 1 ≤ n → TellsBelow src fars n → ((i : ℕ) (row : Row) → slice_get src.rows i ≡ Some row → row.rank ≢ n) → TellsBelow src fars (n + 1)
  skipped_told fars n ranked told none z low = go (source_row src z) refl
    where
      go : (o : Option Row) → source_row src z ≡ o → far_at fars z ≡ status src z
      go None e = let no_rank : source_rank src z ≡ 0 = rw e refl in told z (omega (arith, no_rank, ranked))
      go (Some row) e =
          let position = found_place src.rows z row e in
          let rank : source_rank src z ≡ row.rank = rank_is src valid z row e in
          told z (omega (arith, low, rank, none position.0 row position.1))

-- a rank that isn't in the table is that of no row
pub unused_rank : (rows : List Row) (used : List Bool) (n : ℕ) → HasRanks rows used → slice_index_or used n false ≡ false → (i : ℕ) (row : Row) → slice_get rows i ≡ Some row → row.rank ≢ n
unused_rank rows used n has unused i row there e = true≢false (sym (has i row there) ∙ ap (λ k. slice_index_or used k false) e ∙ unused)
