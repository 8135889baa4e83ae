-- Choices that obey the rule, and what is marked where they may not.
use Rattle.std.proofs.Common.{◌≡◌, ◌≢◌, ℕ, zero, suc, ◌+◌, ◌<◌, List, [], ◌∷◌, Option, Some, None, Result, Ok, Err, All, set, map, cond, eqb, Bool, true, false, ◌||◌, refl, sym, ap, ◌∙◌, arith, inl, inr, subst, length, slice_get, get_or, ◌≤◌, ◌&&◌, ◌⊎◌, ◌++◌}
use Rattle.std.specs.Prelude.{OnOk, find, filter, slice_index_or}
use Rattle.std.specs.List.{AllByRecursion, list_any, swap_remove}
use Rattle.std.proofs.lemmas.List.Sorted.{IsPermutation-swap_remove, list_any-IsPermutation}
use Rattle.std.proofs.lemmas.List.Folds.{list_any-append, list_any_at}
use Rattle.std.specs.Option.{option_and_then, option_map, option_map_or}
use Rattle.std.proofs.lemmas.List.{length-map, nil_from_length}
use Rattle.std.proofs.lemmas.List.Elements.{All-weaker}
use Rattle.std.proofs.lemmas.Bool.{eq-eqb, ne_eqb, eqb-true, eqb-false, cases_eq, cases_lt, or_right}
use Rattle.std.proofs.lemmas.Option.{same_Some, slice_get_within, get_or_from_slice_get, slice_get-map, slice_get-get_or, slice_get_cases}
use Rattle.net_items.specs.declared.lists.Row.{Row}
use Rattle.net_items.specs.declared.items.Plan.{Plan}
use Rattle.net_items.specs.Keyed.{IsRising, IsFoundAt, IsGapAt}
use Rattle.net_items.specs.Lookups.{is_via, row_at, mate_of}
use Rattle.route_choice.specs.declared.choices.Far.{Far}
use Rattle.route_choice.specs.declared.choices.Far.TheVariants.{Allowed, Prohibited}
use Rattle.route_choice.specs.declared.choices.Choice.{Choice}
use Rattle.route_choice.specs.Routes.{direct, choose}
use Rattle.link_sets.specs.Availability.{connected}
use Rattle.link_sets.proofs.ListLemmas.{map_same}
use Rattle.profile.specs.Status.{Source, source_row, source_rank, offer, offers, mate_row, over_mate, mate_offer, choice_by, choice, status_by, status}
use Rattle.profile.specs.Valid.{IsValidSource}
use Rattle.profile.proofs.UnfoldingLemmas.{row_valid, mate_row_has, choice_same, status_is, status_alone}
use Rattle.profile.proofs.PlacingLemmas.{row_at_place}
use Rattle.profile.proofs.ReadLemmas.{each_via}
use Rattle.profile.proofs.CertificateLemmas.{connected_back}
use Rattle.excerpts.specs.Excerpt.{ExcerptValue, source_of, IsRight, leads}
use Rattle.excerpts.specs.Turned.{has_ends, HasTurned}
use Rattle.excerpts.specs.declared.turned.Ends.{Ends}
use Rattle.transfer_state.specs.Kept.{KeptValue, kept, opened_rows}
use Rattle.transfer_state.specs.Told.{far_in, far_from, AreChoices}
use Rattle.transfer_state.specs.Following.{is_marked, rests_on, HasMark, HasMarks, HasMarksOf, HasReaders, IsWithoutMark, KeepsMarks, KeepsStatuses, ObeysBut}
use Rattle.transfer_state.specs.Routing.{statuses_of, IsChosen}
use Rattle.transfer_state.proofs.RouteLemmas.{chosen, opened_chosen, statuses_kept}
use Rattle.transfer_state.proofs.SweepLemmas.{at_index, found_place, slice_get-set_other, slice_get-set_same}

-- ---- the status that choices tell

-- what holds of all holds of the one in a place
pub all_in_place : {X : Type 0} (P : X → Type 0) (xs : List X) (k : ℕ) (x : X) → AllByRecursion P xs → slice_get xs k ≡ Some x → P x
all_in_place P xs k x all at = subst P (get_or_from_slice_get xs k x x at) (at_index P xs k x all (slice_get_within xs k x at))

-- a row's status is that of the choice in its place
far_in_place : (rows : List Row) (choices : List KeptValue) (k : ℕ) (row : Row) (c : KeptValue) → IsRising (λ (r : Row). r.point) rows → slice_get rows k ≡ Some row → slice_get choices k ≡ Some c → far_in rows choices row.point ≡ c.status
far_in_place [] choices k row c rise at is = cc
far_in_place (r ∷ rs) [] k row c rise at is = cc
far_in_place (r ∷ rs) (d ∷ ds) zero row c rise at is =
    rw (eq-eqb r.point row.point (ap (λ (q : Row). q.point) (same_Some r row at))) (ap (λ (q : KeptValue). q.status) (same_Some d c is))
far_in_place (r ∷ rs) (d ∷ ds) (suc k) row c rise at is =
    let above : r.point < row.point = all_in_place (λ (q : Row). r.point < q.point) rs k row rise.0 at in
    rw (ne_eqb r.point row.point (λ e. omega (arith, above, e))) (far_in_place rs ds k row c rise.1 at is)

-- without a row it is prohibited
far_nowhere : (rows : List Row) (choices : List KeptValue) (z : ℕ) → find (λ r. eqb r.point z) rows ≡ None → far_in rows choices z ≡ Prohibited
far_nowhere [] choices z none = refl
far_nowhere (r ∷ rs) [] z none = refl
far_nowhere (r ∷ rs) (d ∷ ds) z none = go (eqb r.point z) refl (far_nowhere rs ds z)
  where
    go : (b : Bool) → eqb r.point z ≡ b → (find (λ r. eqb r.point z) rs ≡ None → far_in rs ds z ≡ Prohibited) → far_in (r ∷ rs) (d ∷ ds) z ≡ Prohibited
    go true t rec = let there : Some r ≡ None = rw t at none in cc
    go false t rec = rw t (rec (rw t at none))

-- a choice written in a place changes the status of its row alone
far_elsewhere : (rows : List Row) (choices : List KeptValue) (k : ℕ) (row : Row) (c : KeptValue) (z : ℕ) → slice_get rows k ≡ Some row → z ≢ row.point → far_in rows (set choices k c) z ≡ far_in rows choices z
far_elsewhere [] choices k row c z at other = refl
far_elsewhere (r ∷ rs) [] k row c z at other = refl
far_elsewhere (r ∷ rs) (d ∷ ds) zero row c z at other = rw (ne_eqb r.point z (λ e. other (sym e ∙ ap (λ (q : Row). q.point) (same_Some r row at)))) refl
far_elsewhere (r ∷ rs) (d ∷ ds) (suc k) row c z at other = ap (λ f. cond (eqb r.point z) d.status f) (far_elsewhere rs ds k row c z at other)

-- and none, if it has the same status
far_kept : (rows : List Row) (choices : List KeptValue) (k : ℕ) (was c : KeptValue) (z : ℕ) → slice_get choices k ≡ Some was → c.status ≡ was.status → far_in rows (set choices k c) z ≡ far_in rows choices z
far_kept [] choices k was c z at same = refl
far_kept (r ∷ rs) [] k was c z at same = refl
far_kept (r ∷ rs) (d ∷ ds) zero was c z at same = ap (λ f. cond (eqb r.point z) f (far_in rs ds z)) (same ∙ ap (λ (q : KeptValue). q.status) (sym (same_Some d was at)))
far_kept (r ∷ rs) (d ∷ ds) (suc k) was c z at same = ap (λ f. cond (eqb r.point z) d.status f) (far_kept rs ds k was c z at same)

-- ---- all choices obey the rule

module _ (src : Source) (valid : IsValidSource src) (rise : IsRising (λ (r : Row). r.point) src.rows) where
  -- the status that choices tell of a point is that of its row's choice
  far_of_row : (choices : List KeptValue) (k : ℕ) (row : Row) (c : KeptValue) → slice_get src.rows k ≡ Some row → slice_get choices k ≡ Some c → far_from src choices row.point ≡ c.status
  far_of_row choices k row c at is =
      let apart = (row_valid src valid row.point row (row_at_place src valid k row at)).1.apart in
      rw (ne_eqb row.point src.dest apart) (far_in_place src.rows choices k row c rise at is)

  -- choices that are what the rule gives by some statuses tell what it gives
  told_by_rule : (choices : List KeptValue) (f : ℕ → Far) → ((k : ℕ) (row : Row) → slice_get src.rows k ≡ Some row → slice_get choices k ≡ Some (kept (choice_by src f row))) → (z : ℕ) → far_from src choices z ≡ status_by src f z
  told_by_rule choices f obey z = go (source_row src z) refl
    where
      go : (o : Option Row) → source_row src z ≡ o → far_from src choices z ≡ status_by src f z
      go None e = rw (e, far_nowhere src.rows choices z e) refl
      go (Some row) e =
          let place = found_place src.rows z row e in
          let point : row.point ≡ z = (row_valid src valid z row e).0 in
          let here : far_in src.rows choices row.point ≡ (choice_by src f row).status = far_in_place src.rows choices place.0 row (kept (choice_by src f row)) rise place.1 (obey place.0 row place.1) in
          rw e (ap (λ g. cond (eqb z src.dest) Allowed g) (subst (λ y. far_in src.rows choices y ≡ (choice_by src f row).status) point here))

  -- choices that all obey the rule are those from scratch
  pub all_obey : (choices : List KeptValue) → ((k : ℕ) (row : Row) → slice_get src.rows k ≡ Some row → slice_get choices k ≡ Some (kept (choice_by src (far_from src choices) row))) → AreChoices src choices
  all_obey choices obey k row at =
      let far = far_from src choices in
      let settled : (z : ℕ) → far z ≡ status src z = λ z. status_alone src valid far (suc (source_rank src z)) (λ y low. told_by_rule choices far obey y) z (omega arith) in
      let ok = (row_valid src valid row.point row (row_at_place src valid k row at)).1 in
      obey k row at ∙ ap (λ (c : Choice). Some (kept c)) (choice_same src valid far (status src) row ok (record { agree = λ z low. settled z }))

  -- the choices from scratch tell the statuses
  pub scratch_tells : (choices : List KeptValue) → AreChoices src choices → (z : ℕ) → far_from src choices z ≡ status src z
  scratch_tells choices are z = told_by_rule choices (status src) are z ∙ sym (status_is src valid z)

  -- ---- what the choice of a row rests on

  pub offers_agree : (f g : ℕ → Far) (row : Row) → ((z : ℕ) → is_via row z ≡ true → connected src.sets row.point z ≡ true → f z ≡ g z) → offers src f row ≡ offers src g row
  offers_agree f g row same =
      map_same (map (offer src f row.point)) (map (offer src g row.point)) row.classes
      (All-weaker (All (λ z. offer src f row.point z ≡ offer src g row.point z)) (λ vias. map (offer src f row.point) vias ≡ map (offer src g row.point) vias)
      (λ vias each. map_same (offer src f row.point) (offer src g row.point) vias each) row.classes
      (each_via (λ z. offer src f row.point z ≡ offer src g row.point z) row.classes (λ z via. over z (same z via))))
    where
      over : (z : ℕ) → (connected src.sets row.point z ≡ true → f z ≡ g z) → offer src f row.point z ≡ offer src g row.point z
      over z agree = go (connected src.sets row.point z) refl
        where
          go : (b : Bool) → connected src.sets row.point z ≡ b → offer src f row.point z ≡ offer src g row.point z
          go true e = let told : f z ≡ g z = agree e in rw (e, told) refl
          go false e = rw e refl

  -- it rests on the statuses of the vias that it, or its mate's row, reaches over available sets
  choice_agrees : (f g : ℕ → Far) (row : Row) → ((z : ℕ) → is_via row z ≡ true → connected src.sets row.point z ≡ true → f z ≡ g z)
      → ((mate : Row) → mate_row src row ≡ Some mate → (z : ℕ) → is_via mate z ≡ true → connected src.sets mate.point z ≡ true → f z ≡ g z)
      → choice_by src f row ≡ choice_by src g row
  choice_agrees f g row own mates =
      let vias = offers_agree f g row own in
      let mate : mate_offer src f row ≡ mate_offer src g row = go (mate_row src row) refl in
      rw (vias, mate) refl
    where
      go : (o : Option Row) → mate_row src row ≡ o → mate_offer src f row ≡ mate_offer src g row
      go None e = rw e refl
      go (Some mate) e = let there = offers_agree f g mate (mates mate e) in rw (e, there) refl

-- ---- marks

-- what is told by a test of a list passes in a place
place_of_any : {X : Type 0} (p : X → Bool) (xs : List X) → list_any p xs ≡ true → (k : ℕ) × (x : X) × (slice_get xs k ≡ Some x) × (p x ≡ true)
place_of_any p [] e = cc
place_of_any p (x ∷ xs) e = go (p x) refl (place_of_any p xs)
  where
    go : (b : Bool) → p x ≡ b → (list_any p xs ≡ true → (k : ℕ) × (y : _) × (slice_get xs k ≡ Some y) × (p y ≡ true)) → (k : ℕ) × (y : _) × (slice_get (x ∷ xs) k ≡ Some y) × (p y ≡ true)
    go true t rec = (0, x, refl, t)
    go false t rec = let later = rec (rw t at e) in (suc later.0, later.1, later.2, later.3)

-- a filter keeps what passes
pub kept_by_filter : (p : ℕ → Bool) (xs : List ℕ) (y : ℕ) → find (λ z. eqb z y) xs ≡ Some y → p y ≡ true → list_any (λ z. eqb z y) (filter p xs) ≡ true
kept_by_filter p [] y there passes = cc
kept_by_filter p (x ∷ xs) y there passes = go (eqb x y) refl (p x) refl (kept_by_filter p xs y)
  where
    go : (a : Bool) → eqb x y ≡ a → (b : Bool) → p x ≡ b → (find (λ z. eqb z y) xs ≡ Some y → p y ≡ true → list_any (λ z. eqb z y) (filter p xs) ≡ true) → list_any (λ z. eqb z y) (filter p (x ∷ xs)) ≡ true
    go true e true t rec = rw (t, e) refl
    go true e false t rec = let same : p x ≡ p y = ap p (eqb-true x y e) in let bad : false ≡ true = sym t ∙ same ∙ passes in cc
    go false e true t rec = rw (t, e) (rec (rw e at there) passes)
    go false e false t rec = rw t (rec (rw e at there) passes)

-- both parts of a test
both_true : (a b : Bool) → (a && b) ≡ true → (a ≡ true) × (b ≡ true)
both_true true true e = (refl, refl)
both_true true false e = cc
both_true false b e = cc

-- one more mark
pub marked_or : (marks : List ℕ) (position k : ℕ) → is_marked (position ∷ marks) k ≡ true → (k ≡ position) ⊎ (is_marked marks k ≡ true)
marked_or marks position k e = go (eqb position k) refl
  where
    go : (b : Bool) → eqb position k ≡ b → (k ≡ position) ⊎ (is_marked marks k ≡ true)
    go true t = inl (sym (eqb-true position k t))
    go false t = inr (rw t at e)

-- what follows from what is ensured on success
pub on_ok : {T E P Q : Type 0} (r : Result T E) → (P → Q) → OnOk r P → OnOk r Q
on_ok (Ok x) f p = f p
on_ok (Err e) f p = p

-- a mark at the end
pub mark_last : (marks longer : List ℕ) (position : ℕ) → longer ≡ marks ++ position ∷ []
    → KeepsMarks marks longer × (is_marked longer position ≡ true) × ((k : ℕ) → is_marked longer k ≡ true → k ≢ position → is_marked marks k ≡ true)
mark_last marks longer position is = (
  λ k e. same k ∙ ap (λ b. b || (eqb position k || false)) e,
  same position ∙ or_right (is_marked marks position) _ (ap (λ b. b || false) (eq-eqb position position refl)),
  λ k e ne. sym (or_none (is_marked marks k)) ∙ ap (λ b. is_marked marks k || (b || false)) (sym (ne_eqb position k (λ p. ne (sym p)))) ∙ sym (same k) ∙ e,
)
  where
    same : (k : ℕ) → is_marked longer k ≡ (is_marked marks k || (eqb position k || false))
    same k = ap (λ (ms : List ℕ). is_marked ms k) is ∙ list_any-append (λ (m : ℕ). eqb m k) marks (position ∷ [])

    or_none : (b : Bool) → (b || false) ≡ b
    or_none true = refl
    or_none false = refl

-- a place among the marks is marked
pub mark_at : (marks : List ℕ) (i d : ℕ) → i < length marks → is_marked marks (get_or marks i d) ≡ true
mark_at marks i d within = list_any_at (λ (m : ℕ). eqb m (get_or marks i d)) marks i d within (eq-eqb (get_or marks i d) (get_or marks i d) refl)

-- a mark that is taken out
pub without_mark : (marks : List ℕ) (i position : ℕ) → i < length marks → position ≡ get_or marks i position → IsWithoutMark marks (swap_remove marks i position) position
without_mark marks i position within is = record {
  there = subst (λ k. is_marked marks k ≡ true) (sym is) (mark_at marks i position within);
  kept = λ k e. same k ∙ or_right (eqb position k) _ e;
  rest = λ k e ne. same k ∙ rw (ne_eqb position k (λ p. ne (sym p))) e;
}
  where
    same : (k : ℕ) → is_marked marks k ≡ (eqb position k || is_marked (swap_remove marks i position) k)
    same k = list_any-IsPermutation (λ (m : ℕ). eqb m k) marks (position ∷ swap_remove marks i position) (IsPermutation-swap_remove marks i position within is)

-- marks that are kept tell what they did
pub keeps_pair : (x : ExcerptValue) (before after : List ℕ) (y : ℕ) → KeepsMarks before after → HasMarks x before y → HasMarks x after y
keeps_pair x before after y kept has = record {
  own = λ k row at is. kept k (has.own k row at is);
  mate = λ m paired k row at is. kept k (has.mate m paired k row at is);
}

pub keeps_marks_of : (x : ExcerptValue) (before after : List ℕ) (y z : ℕ) → KeepsMarks before after → HasMarksOf x before y z → HasMarksOf x after y z
keeps_marks_of x before after y z kept has = record {
  via = λ leads. keeps_pair x before after y kept (has.via leads);
  mate = λ paired. keeps_pair x before after y kept (has.mate paired);
}

-- what the loop over ends has marked
abbrev pub ArePutFor : ExcerptValue → List ℕ → List Ends → ℕ → Type 0
ArePutFor x marks turned i = (k : ℕ) (ends : Ends) → k < i → slice_get turned k ≡ Some ends → HasMarksOf x marks ends.point ends.other

pub put_for_more : (x : ExcerptValue) (before after : List ℕ) (turned : List Ends) (i : ℕ) (ends : Ends) → slice_get turned i ≡ Some ends → KeepsMarks before after → HasMarksOf x after ends.point ends.other
    → ArePutFor x before turned i → ArePutFor x after turned (i + 1)
put_for_more x before after turned i ends at kept marked put k e low is = elim (cases_eq k i) [
  | inl same ↦ subst (λ (f : Ends). HasMarksOf x after f.point f.other) (same_Some ends e (sym at ∙ ap (slice_get turned) (sym same) ∙ is)) marked
  | inr ne ↦ keeps_marks_of x before after e.point e.other kept (put k e (omega arith) is)
]

pub put_for_all : (x : ExcerptValue) (marks : List ℕ) (turned : List Ends) (i : ℕ) → length turned ≤ i → ArePutFor x marks turned i → (y z : ℕ) → has_ends turned y z ≡ true → HasMarksOf x marks y z
put_for_all x marks turned i all put y z has =
    let found = place_of_any (λ (e : Ends). eqb e.point y && eqb e.other z) turned has in
    let ends = both_true _ _ found.3 in
    let there = put found.0 found.1 (omega (arith, all, slice_get_within turned found.0 found.1 found.2)) found.2 in
    subst (λ v. HasMarksOf x marks v z) (eqb-true found.1.point y ends.0) (subst (λ w. HasMarksOf x marks found.1.point w) (eqb-true found.1.other z ends.1) there)

-- what the loop over neighbours has marked
pub reads_more : (x : ExcerptValue) (before after : List ℕ) (ys : List ℕ) (y z : ℕ) → KeepsMarks before after → HasMarksOf x after y z
    → ((w : ℕ) → list_any (λ v. eqb v w) ys ≡ true → HasMarksOf x before w z) → (w : ℕ) → list_any (λ v. eqb v w) (ys ++ y ∷ []) ≡ true → HasMarksOf x after w z
reads_more x before after ys y z kept marked put w among = go (list_any (λ v. eqb v w) ys) refl
  where
    split : list_any (λ v. eqb v w) (ys ++ y ∷ []) ≡ (list_any (λ v. eqb v w) ys || (eqb y w || false))
    split = list_any-append (λ v. eqb v w) ys (y ∷ [])

    go : (b : Bool) → list_any (λ v. eqb v w) ys ≡ b → HasMarksOf x after w z
    go true e = keeps_marks_of x before after w z kept (put w e)
    go false e = subst (λ v. HasMarksOf x after v z) (eqb-true y w (last (eqb y w) refl)) marked
      where
        last : (c : Bool) → eqb y w ≡ c → eqb y w ≡ true
        last true t = t
        last false t = let bad : false ≡ true = sym (rw (e, t) at split) ∙ among in cc

-- a row that isn't marked is none whose mark was kept
pub still_unmarked : (before after : List ℕ) → KeepsMarks before after → (k : ℕ) → is_marked after k ≡ false → is_marked before k ≡ false
still_unmarked before after kept k unmarked = go (is_marked before k) refl
  where
    go : (b : Bool) → is_marked before k ≡ b → is_marked before k ≡ false
    go true e = let yes : is_marked after k ≡ true = kept k e in cc
    go false e = e

module _ (x : ExcerptValue) (right : IsRight x) where
  -- the statuses that choices tell, by the place that a search finds
  pub far_found : (choices : List KeptValue) (at z : ℕ) (c : KeptValue) → IsFoundAt (λ (r : Row). r.point) z x.plan.rows at → length choices ≡ length x.plan.rows → (eqb z x.plan.dest) ≡ false
      → (slice_index_or choices at c).status ≡ far_from (source_of x) choices z
  far_found choices at z c found together other =
      elim (slice_get_cases x.plan.rows at).1 [
        | inl w ↦
            let point : w.0.point ≡ z = ap (λ (r : Row). r.point) (sym w.3) ∙ found.has_key w.0 in
            let is : slice_get choices at ≡ Some (slice_index_or choices at c) = slice_get-get_or choices at c (omega (arith, w.1, together)) in
            rw other (sym (subst (λ v. far_in x.plan.rows choices v ≡ (slice_index_or choices at c).status) point (far_in_place x.plan.rows choices at w.0 _ right.rows_rise w.2 is)))
        | inr w ↦ absurd (omega (arith, w.0, found.in_range))
      ]

  pub far_gap : (choices : List KeptValue) (z at : ℕ) → IsGapAt (λ (r : Row). r.point) z x.plan.rows at → eqb z x.plan.dest ≡ false → Prohibited ≡ far_from (source_of x) choices z
  far_gap choices z at gap other = rw other (sym (far_nowhere x.plan.rows choices z gap.absent))

  -- a row stands in one place
  pub one_place : (k i : ℕ) (row other : Row) → slice_get x.plan.rows k ≡ Some row → slice_get x.plan.rows i ≡ Some other → row.point ≡ other.point → k ≡ i
  one_place k i row other at there same = elim (cases_eq k i) [
    | inl e ↦ e
    | inr ne ↦ absurd (elim (cases_lt k i) [
      | inl low ↦ before k i row other low at there same
      | inr high ↦ before i k other row (omega (arith, high, ne)) there at (sym same)
    ])
  ]
    where
      before : (a b : ℕ) (r q : Row) → a < b → slice_get x.plan.rows a ≡ Some r → slice_get x.plan.rows b ≡ Some q → r.point ≡ q.point → ⊥
      before a b r q low first second e =
          let apart : (get_or x.plan.rows a r).point < (get_or x.plan.rows b r).point = right.valid.once a b r low (slice_get_within x.plan.rows b q second) in
          omega (arith, apart, ap (λ (v : Row). v.point) (get_or_from_slice_get x.plan.rows a r r first), ap (λ (v : Row). v.point) (get_or_from_slice_get x.plan.rows b q r second), e)

  -- the row of a point is marked where it is found, and there is none where it isn't
  pub found_mark : (marks : List ℕ) (y at : ℕ) → IsFoundAt (λ (r : Row). r.point) y x.plan.rows at → is_marked marks at ≡ true → HasMark x marks y
  found_mark marks y at found marked k row there point =
      elim (slice_get_cases x.plan.rows at).1 [
        | inl w ↦ subst (λ i. is_marked marks i ≡ true) (one_place at k w.0 row w.2 there (ap (λ (r : Row). r.point) (sym w.3) ∙ found.has_key w.0 ∙ sym point)) marked
        | inr w ↦ absurd (omega (arith, w.0, found.in_range))
      ]

  pub gap_mark : (marks : List ℕ) (y at : ℕ) → IsGapAt (λ (r : Row). r.point) y x.plan.rows at → HasMark x marks y
  gap_mark marks y at gap k row there point =
      let planned : row_at x.plan.rows y ≡ Some row = subst (λ v. row_at x.plan.rows v ≡ Some row) point (row_at_place (source_of x) right.valid k row there) in
      let bad : Some row ≡ None = sym planned ∙ gap.absent in cc

  -- the row in a place is the row of its point
  row_here : (k : ℕ) (row : Row) → slice_get x.plan.rows k ≡ Some row → row_at x.plan.rows row.point ≡ Some row
  row_here k row at = row_at_place (source_of x) right.valid k row at

  -- the mate of a row's mate is the row's point
  mate_back : (row mate : Row) → row_at x.plan.rows row.point ≡ Some row → mate_row (source_of x) row ≡ Some mate → (mate_of x.network.points row.point ≡ Some mate.point) × (mate_of x.network.points mate.point ≡ Some row.point) × (row_at x.plan.rows mate.point ≡ Some mate)
  mate_back row mate planned e =
      let ok = (row_valid (source_of x) right.valid row.point row planned).1 in
      let has = mate_row_has (source_of x) right.valid row mate ok e in
      let paired : mate_of x.network.points row.point ≡ Some mate.point = has.0.paired ∙ ap (λ (r : Row). Some r.point) has.1 in
      (paired, (right.network.mates row.point mate.point paired).back, subst (λ (r : Row). row_at x.plan.rows r.point ≡ Some r) has.1 has.0.planned)

  -- the points of rows are codes
  row_coded : (k : ℕ) (row : Row) → slice_get x.plan.rows k ≡ Some row → row.point < 16384
  row_coded k row at = (row_valid (source_of x) right.valid row.point row (row_here k row at)).1.coded

  mate_coded : (k : ℕ) (row mate : Row) → slice_get x.plan.rows k ≡ Some row → mate_row (source_of x) row ≡ Some mate → mate.point < 16384
  mate_coded k row mate at e = let back = mate_back row mate (row_here k row at) e in (row_valid (source_of x) right.valid mate.point mate back.2).1.coded

  -- a row that leads to a point does so
  leads_there : (row : Row) (z : ℕ) → row_at x.plan.rows row.point ≡ Some row → is_via row z ≡ true → leads x.plan.rows row.point z ≡ true
  leads_there row z at via = rw at via

  -- a row that isn't marked rests on no via of which the marks tell, and so does its mate's
  unread_via : (marks : List ℕ) (k : ℕ) (row : Row) (z : ℕ) → slice_get x.plan.rows k ≡ Some row → is_marked marks k ≡ false → is_via row z ≡ true → HasMarksOf x marks row.point z → ⊥
  unread_via marks k row z at unmarked via has =
      let yes : is_marked marks k ≡ true = (has.via (leads_there row z (row_here k row at) via)).own k row at refl in
      let bad : true ≡ false = sym yes ∙ unmarked in cc

  unread_mate_via : (marks : List ℕ) (k : ℕ) (row mate : Row) (z : ℕ) → slice_get x.plan.rows k ≡ Some row → is_marked marks k ≡ false → mate_row (source_of x) row ≡ Some mate → is_via mate z ≡ true → HasMarksOf x marks mate.point z → ⊥
  unread_mate_via marks k row mate z at unmarked e via has =
      let back = mate_back row mate (row_here k row at) e in
      let yes : is_marked marks k ≡ true = (has.via (leads_there mate z back.2 via)).mate row.point back.1 k row at refl in
      let bad : true ≡ false = sym yes ∙ unmarked in cc

  unread_mate : (marks : List ℕ) (k : ℕ) (row mate : Row) → slice_get x.plan.rows k ≡ Some row → is_marked marks k ≡ false → mate_row (source_of x) row ≡ Some mate → HasMarksOf x marks row.point mate.point → ⊥
  unread_mate marks k row mate at unmarked e has =
      let back = mate_back row mate (row_here k row at) e in
      let yes : is_marked marks k ≡ true = (has.mate back.0).own k row at refl in
      let bad : true ≡ false = sym yes ∙ unmarked in cc

  -- ---- a row chosen anew

  module _ (choices : List KeptValue) (before : List ℕ) (k : ℕ) (row : Row) (was : KeptValue) (at : slice_get x.plan.rows k ≡ Some row) (there : slice_get choices k ≡ Some was) (obey : ObeysBut (source_of x) choices (k ∷ before)) where
    -- the choice that the rule gives
    abbrev anew : KeptValue
    anew = kept (choice_by (source_of x) (far_from (source_of x) choices) row)

    -- the choices with it
    abbrev renewed : List KeptValue
    renewed = set choices k anew

    -- if a row's choice rests on no status that changed, it obeys the rule still
    obeys_still : (j : ℕ) (r : Row) → slice_get x.plan.rows j ≡ Some r → is_marked before j ≡ false → choice_by (source_of x) (far_from (source_of x) choices) r ≡ choice_by (source_of x) (far_from (source_of x) renewed) r
        → slice_get renewed j ≡ Some (kept (choice_by (source_of x) (far_from (source_of x) renewed) r))
    obeys_still j r here unmarked same = elim (cases_eq j k) [
      | inl e ↦
          let is : r ≡ row = same_Some r row (sym here ∙ ap (slice_get x.plan.rows) e ∙ at) in
          ap (slice_get renewed) e ∙ slice_get-set_same choices k anew (slice_get_within choices k was there) ∙ ap (λ (q : Row). Some (kept (choice_by (source_of x) (far_from (source_of x) choices) q))) (sym is) ∙ ap (λ (d : Choice). Some (kept d)) same
      | inr ne ↦
          let other : is_marked (k ∷ before) j ≡ false = rw (ne_eqb k j (λ e. ne (sym e))) unmarked in
          slice_get-set_other choices k j anew ne ∙ obey j r here other ∙ ap (λ (d : Choice). Some (kept d)) same
    ]

    -- with the same status nothing else changes
    pub same_status : anew.status ≡ was.status → ObeysBut (source_of x) renewed before
    same_status same j r here unmarked =
        let told : (z : ℕ) → far_from (source_of x) choices z ≡ far_from (source_of x) renewed z
        = λ z. ap (λ f. cond (eqb z x.plan.dest) Allowed f) (sym (far_kept x.plan.rows choices k was anew z there same)) in
        obeys_still j r here unmarked (choice_agrees (source_of x) right.valid right.rows_rise (far_from (source_of x) choices) (far_from (source_of x) renewed) r (λ z via joined. told z) (λ mate e z via joined. told z))

    -- and else those whose choices rest on it are marked
    pub new_status : (after : List ℕ) → KeepsMarks before after → HasReaders x after row.point → ObeysBut (source_of x) renewed after
    new_status after kept readers j r here unmarked =
        obeys_still j r here (still_unmarked before after kept j unmarked)
        (choice_agrees (source_of x) right.valid right.rows_rise (far_from (source_of x) choices) (far_from (source_of x) renewed) r
        (λ z via joined. told z (λ e. unread_via after j r z here unmarked via (subst (λ w. HasMarksOf x after r.point w) (sym e) (readers r.point (row_coded j r here) (connected_back x.network.sets row.point r.point ∙ subst (λ w. connected x.network.sets r.point w ≡ true) e joined)))))
        (λ mate m z via joined. told z (λ e. unread_mate_via after j r mate z here unmarked m via (subst (λ w. HasMarksOf x after mate.point w) (sym e) (readers mate.point (mate_coded j r mate here m) (connected_back x.network.sets row.point mate.point ∙ subst (λ w. connected x.network.sets mate.point w ≡ true) e joined))))))
      where
        told : (z : ℕ) → (z ≡ row.point → ⊥) → far_from (source_of x) choices z ≡ far_from (source_of x) renewed z
        told z other = ap (λ f. cond (eqb z x.plan.dest) Allowed f) (sym (far_elsewhere x.plan.rows choices k row anew z at other))

  -- with no mark left they are those from scratch
  pub none_left : (choices : List KeptValue) → length choices ≡ length x.plan.rows → ObeysBut (source_of x) choices [] → IsChosen x choices
  none_left choices together obey = chosen x choices (all_obey (source_of x) right.valid right.rows_rise choices (λ k row at. obey k row at refl)) together

  -- taking out a mark to choose its row
  pub mark_taken : (choices : List KeptValue) (before after : List ℕ) (position : ℕ) → IsWithoutMark before after position → ObeysBut (source_of x) choices before → ObeysBut (source_of x) choices (position ∷ after)
  mark_taken choices before after position taken obey k row at unmarked =
      go (eqb position k) refl unmarked
    where
      go : (b : Bool) → eqb position k ≡ b → (b || is_marked after k) ≡ false → slice_get choices k ≡ Some (kept (choice_by (source_of x) (far_from (source_of x) choices) row))
      go true e left = let bad : true ≡ false = left in cc
      go false e left = obey k row at (taken.rest k left (λ same. eqb-false position k e (sym same)))

-- ---- choices of the plan in a network before

module _ (old x : ExcerptValue) (was : IsRight old) (right : IsRight x) (turned : List Ends) (dest : x.plan.dest ≡ old.plan.dest) (has : HasTurned old.network x.network turned) where
  -- it is the same plan
  pub same_plan : x.plan ≡ old.plan
  same_plan = same_Some x.plan old.plan (sym right.planned ∙ rw (has.plans, dest) was.planned)

  -- the choices before obey the rule but where the marks tell
  pub obeys_after : (choices : List KeptValue) → IsChosen old choices → (marks : List ℕ) → ((y z : ℕ) → has_ends turned y z ≡ true → HasMarksOf x marks y z) → ObeysBut (source_of x) choices marks
  obeys_after choices before marks marked k row at unmarked =
      there ∙ ap (λ (d : Choice). Some (kept d)) (sym (choice_turned (status (source_of old))) ∙ choice_same (source_of x) right.valid (status (source_of old)) (far_from (source_of x) choices) row (row_valid (source_of x) right.valid row.point row (row_here x right k row at)).1 (record { agree = λ z low. told z }))
    where
      planned : row_at x.plan.rows row.point ≡ Some row
      planned = row_here x right k row at

      at_old : (j : ℕ) (r : Row) → slice_get old.plan.rows j ≡ Some r → slice_get choices j ≡ Some (kept (choice (source_of old) r))
      at_old j r here = ap (λ (cs : List KeptValue). slice_get cs j) before ∙ slice_get-map (λ (r : Row). kept (choice (source_of old) r)) old.plan.rows j ∙ ap (option_map (λ (r : Row). kept (choice (source_of old) r))) here

      there : slice_get choices k ≡ Some (kept (choice (source_of old) row))
      there = at_old k row (rw (← same_plan) at)

      told : (z : ℕ) → status (source_of old) z ≡ far_from (source_of x) choices z
      told z = sym (rw same_plan (scratch_tells (source_of old) was.valid was.rows_rise choices at_old z))

      -- unless it is marked, a row reaches the same vias
      same_via : (r : Row) → ((z : ℕ) → is_via r z ≡ true → HasMarksOf x marks r.point z → ⊥) → (z : ℕ) → is_via r z ≡ true → connected x.network.sets r.point z ≡ connected old.network.sets r.point z
      same_via r unread z via = go (has_ends turned r.point z) refl
        where
          go : (b : Bool) → has_ends turned r.point z ≡ b → connected x.network.sets r.point z ≡ connected old.network.sets r.point z
          go true e = absurd (unread z via (marked r.point z e))
          go false e = has.turned r.point z e

      same_mate : (mate : Row) → mate_row (source_of x) row ≡ Some mate → connected x.network.sets row.point mate.point ≡ connected old.network.sets row.point mate.point
      same_mate mate m = go (has_ends turned row.point mate.point) refl
        where
          go : (b : Bool) → has_ends turned row.point mate.point ≡ b → connected x.network.sets row.point mate.point ≡ connected old.network.sets row.point mate.point
          go true e = absurd (unread_mate x right marks k row mate at unmarked m (marked row.point mate.point e))
          go false e = has.turned row.point mate.point e

      offers_turned : (f : ℕ → Far) (r : Row) → ((z : ℕ) → is_via r z ≡ true → connected x.network.sets r.point z ≡ connected old.network.sets r.point z) → offers (source_of old) f r ≡ offers (source_of x) f r
      offers_turned f r same =
          map_same (map (offer (source_of old) f r.point)) (map (offer (source_of x) f r.point)) r.classes
          (All-weaker (All (λ z. offer (source_of old) f r.point z ≡ offer (source_of x) f r.point z)) (λ vias. map (offer (source_of old) f r.point) vias ≡ map (offer (source_of x) f r.point) vias)
          (λ vias each. map_same (offer (source_of old) f r.point) (offer (source_of x) f r.point) vias each) r.classes
          (each_via (λ z. offer (source_of old) f r.point z ≡ offer (source_of x) f r.point z) r.classes
          (λ z via. ap (λ b. record { via = z; far = cond b (f z) Prohibited }) (sym (same z via)))))

      mate_row_old : mate_row (source_of old) row ≡ mate_row (source_of x) row
      mate_row_old = rw (has.points, same_plan) refl

      choice_turned : (f : ℕ → Far) → choice_by (source_of x) f row ≡ choice_by (source_of old) f row
      choice_turned f =
          let vias = offers_turned f row (same_via row (λ z via. unread_via x right marks k row z at unmarked via)) in
          let option : old.network.tfr ≡ x.network.tfr = sym has.tfr in
          sym (rw (vias, option) (ap (choose x.network.tfr (offers (source_of x) f row)) (go (mate_row (source_of x) row) refl)))
        where
          go : (o : Option Row) → mate_row (source_of x) row ≡ o
              → option_and_then (λ mate. over_mate (source_of old) row mate (direct x.network.tfr (offers (source_of old) f mate))) (mate_row (source_of old) row)
              ≡ option_and_then (λ mate. over_mate (source_of x) row mate (direct x.network.tfr (offers (source_of x) f mate))) (mate_row (source_of x) row)
          go None e = rw (mate_row_old, e) refl
          go (Some mate) e =
              let joined : connected old.network.sets row.point mate.point ≡ connected x.network.sets row.point mate.point = sym (same_mate mate e) in
              let there = offers_turned f mate (same_via mate (λ z via. unread_mate_via x right marks k row mate z at unmarked e via)) in
              rw (mate_row_old, e, joined, there) refl

  -- if no row is marked, the choices are those from scratch
  pub kept_whole : (choices : List KeptValue) → IsChosen old choices → (marks : List ℕ) → length marks ≡ 0 → ((y z : ℕ) → has_ends turned y z ≡ true → HasMarksOf x marks y z) → IsChosen x choices
  kept_whole choices before marks empty marked =
      none_left x right choices (ap (length {A = KeptValue}) before ∙ length-map old.plan.rows (λ (r : Row). kept (choice (source_of old) r)) ∙ ap (λ (p : Plan). length p.rows) (sym same_plan))
      (subst (λ (ms : List ℕ). ObeysBut (source_of x) choices ms) (nil_from_length marks empty) (obeys_after choices before marks marked))

-- ---- statuses that stay

-- ends that a list has pass no test that none of it passes
none_rests : (p : ℕ → ℕ → Bool) (turned : List Ends) (y z : ℕ) → list_any (λ (ends : Ends). p ends.point ends.other) turned ≡ false → has_ends turned y z ≡ true → p y z ≡ false
none_rests p [] y z none has = cc
none_rests p (ends ∷ turned) y z none has = go (p ends.point ends.other) refl (eqb ends.point y && eqb ends.other z) refl (none_rests p turned y z)
  where
    go : (a : Bool) → p ends.point ends.other ≡ a → (b : Bool) → (eqb ends.point y && eqb ends.other z) ≡ b
        → (list_any (λ (ends : Ends). p ends.point ends.other) turned ≡ false → has_ends turned y z ≡ true → p y z ≡ false) → p y z ≡ false
    go true e b f rest = let bad : true ≡ false = rw e at none in cc
    go false e true f rest =
        let same = both_true (eqb ends.point y) (eqb ends.other z) f in
        rw (← eqb-true ends.point y same.0, ← eqb-true ends.other z same.1) e
    go false e false f rest = rest (rw e at none) (rw f at has)

no_left : (a b : Bool) → (a || b) ≡ false → (a ≡ false) × (b ≡ false)
no_left true b e = cc
no_left false b e = (refl, e)

-- where no row rests on a set that turned, the statuses stay
pub keeps_statuses : (old : ExcerptValue) (choices : List KeptValue) (turned : List Ends) → IsRight old → IsChosen old choices → list_any (λ (ends : Ends). rests_on old ends.point ends.other) turned ≡ false
    → KeepsStatuses (record { excerpt = old; choices = opened_rows (source_of old) old.plan.rows choices }) turned
keeps_statuses old choices turned was before none x right dest has =
    ap statuses_of (sym (opened_chosen x right choices now)) ∙ statuses_kept x right choices now ∙ sym (statuses_kept old was choices before)
  where
    unread : (y z : ℕ) → has_ends turned y z ≡ true → (leads old.plan.rows y z ≡ false) × (option_map_or (λ m. eqb m z) (mate_of old.network.points y) false ≡ false)
    unread y z ends = no_left (leads old.plan.rows y z) (option_map_or (λ m. eqb m z) (mate_of old.network.points y) false) (none_rests (rests_on old) turned y z none ends)

    no_marks : (y z : ℕ) → has_ends turned y z ≡ true → HasMarksOf x [] y z
    no_marks y z ends = record {
      via = λ leading.
          let bad : true ≡ false = sym leading ∙ (ap (λ (p : Plan). leads p.rows y z) (same_plan old x was right turned dest has) ∙ (unread y z ends).0) in cc;
      mate = λ paired.
          let there : mate_of old.network.points y ≡ Some z = rw (← has.points) paired in
          let yes : option_map_or (λ m. eqb m z) (mate_of old.network.points y) false ≡ true = rw there (eq-eqb z z refl) in
          let bad : true ≡ false = sym yes ∙ (unread y z ends).1 in cc;
    }

    now : IsChosen x choices
    now = kept_whole old x was right turned dest has choices before [] refl no_marks
