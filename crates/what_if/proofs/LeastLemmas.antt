-- What is told takes least.
use Rattle.std.proofs.Common.{◌≡◌, ◌≢◌, ℕ, zero, suc, ◌+◌, ◌<◌, ◌≤◌, ◌++◌, List, [], ◌∷◌, Option, Some, None, All, map, cond, eqb, Bool, true, false, ◌&&◌, refl, sym, ap, ◌∙◌, arith, inl, inr, ◌⊎◌, subst, length}
use Rattle.std.specs.List.{Contains}
use Rattle.std.specs.Option.{option_and_then}
use Rattle.std.proofs.lemmas.Bool.{eq-eqb, ne_eqb, eqb-true, and_from, or_left, or_right, true≢false, cases_eq}
use Rattle.std.proofs.lemmas.List.Elements.{All-head, All-tail, All-nil, All-cons, All-append, All-contains, All-contains_itself, All-weaker}
use Rattle.std.proofs.lemmas.Option.{same_Some}
use Rattle.net_items.specs.declared.items.LinkSet.{LinkSet}
use Rattle.net_items.specs.declared.lists.Row.{Row}
use Rattle.net_items.specs.Keyed.{IsRising}
use Rattle.net_items.specs.Lookups.{set_at}
use Rattle.link_sets.specs.Availability.{connected}
use Rattle.profile.specs.Status.{Source, source_row, source_rank, mate_row}
use Rattle.profile.specs.Valid.{IsVia, IsValidRow, IsValidSource}
use Rattle.profile.proofs.UnfoldingLemmas.{row_valid, rank_is, via_lower, mate_row_has, mate_row_valid}
use Rattle.what_if.specs.declared.costs.Cost.{Cost}
use Rattle.what_if.specs.declared.mending.SetLink.{SetLink}
use Rattle.what_if.specs.declared.wanted.Wanted.{Wanted}
use Rattle.what_if.specs.declared.wanted.Wanted.TheVariants as want
use Rattle.what_if.specs.Mending.{is_strict, vias_wanted, names, restored, Reaches, cost, sum_of_costs, IsOf, AreOf, IsMend, least_of, alone, least_link, between, over, over_vias, mend_over_mate, row_mend, mend}
use Rattle.what_if.proofs.CostLemmas.{NoMore, no_more_is, no_more_trans, no_more_sum, cost-append, cost_small, cheaper_cases, IsWithin, within_more, cheaper_first, cheaper_second, least_within, least_from}
use Rattle.what_if.proofs.RestoringLemmas.{least_link_is, between_cases, opened_cases, between_opens, restored_valid}
use Rattle.what_if.proofs.MendUnfoldingLemmas.{vias-wanted, mend_is, mend_of_dest, mend_of_row}
use Rattle.what_if.proofs.WeightLemmas.{weigh, weigh_weaker, weigh_apart, weigh_named, both_up_to, not_both, up_to_from, up_to_gives, not_both_from, not_both_gives, HasRanks, has_ranks}
use Rattle.what_if.proofs.WayLemmas.{Way, arrive, by_via, by_mate, met_way, way_met}

-- ---- what stands on the way over an adjacent point

pub record IsOver (src : Source) (y z : ℕ) (rest : Option (List SetLink)) (list : List SetLink) : Type 0 where
  pub front : List SetLink
  pub back : List SetLink
  pub first : between src y z ≡ Some front
  pub then_ : rest ≡ Some back
  pub is : front ++ back ≡ list

pub over_cases : (src : Source) (y z : ℕ) (rest : Option (List SetLink)) (list : List SetLink) → over src y z rest ≡ Some list → IsOver src y z rest list
over_cases src y z rest list e = go (between src y z) refl rest refl
  where
    go : (b : Option (List SetLink)) → between src y z ≡ b → (r : Option (List SetLink)) → rest ≡ r → IsOver src y z rest list
    go None f r g = let none : None ≡ Some list = rw f at e in cc
    go (Some front) f None g = let none : None ≡ Some list = rw (f, g) at e in cc
    go (Some front) f (Some back) g = record {
      front = front;
      back = back;
      first = f;
      then_ = g;
      is = same_Some (front ++ back) list (rw (f, g) at e);
    }

-- what stands on the way over the mate
record IsOverMate (src : Source) (wanted : Wanted) (row : Row) (list : List SetLink) : Type 0 where
  loose : is_strict src wanted ≡ false
  mate : Row
  is_mate : mate_row src row ≡ Some mate
  needs : over src row.point mate.point (over_vias src wanted (mend src wanted) mate) ≡ Some list

over_mate_cases : (src : Source) (wanted : Wanted) (row : Row) (list : List SetLink) → mend_over_mate src wanted (mend src wanted) row ≡ Some list → IsOverMate src wanted row list
over_mate_cases src wanted row list e = go (is_strict src wanted) refl (mate_row src row) refl
  where
    over_it : Row → Option (List SetLink)
    over_it mate = over src row.point mate.point (over_vias src wanted (mend src wanted) mate)

    may : (b : Bool) → is_strict src wanted ≡ b → cond b None (option_and_then over_it (mate_row src row)) ≡ Some list
    may b is = subst (λ t. cond t None (option_and_then over_it (mate_row src row)) ≡ Some list) is e

    go : (b : Bool) → is_strict src wanted ≡ b → (o : Option Row) → mate_row src row ≡ o → IsOverMate src wanted row list
    go true strict o m = let no : None ≡ Some list = may true strict in cc
    go false loose None m = let no : None ≡ Some list = rw m at (may false loose) in cc
    go false loose (Some mate) m = record { loose = loose; mate = mate; is_mate = m; needs = rw m at (may false loose) }

-- what holds of all of two lists holds of all of each
All-parts : (P : SetLink → Type 0) (xs ys : List SetLink) → All P (xs ++ ys) → All P xs × All P ys
All-parts P [] ys each = (All-nil P, each)
All-parts P (x ∷ xs) ys each = let rest = All-parts P xs ys (All-tail P x (xs ++ ys) each) in (All-cons P x xs (All-head P x (xs ++ ys) each) rest.0, rest.1)

-- the same classes lead to it once links are restored
strict_restored : (list : List SetLink) (src : Source) (wanted : Wanted) → is_strict (restored list src) wanted ≡ is_strict src wanted
strict_restored list src want.Reached = refl
strict_restored list src want.Allowed = refl

-- a listed link weighs no less than the link that is told of its set takes
abbrev pub Weighs : Source → (SetLink → Cost) → SetLink → Type 0
Weighs src weight l = (set : LinkSet) → set_at src.sets l.id ≡ Some set → (told : List SetLink) → least_link set.id set.links ≡ Some told → NoMore (cost told) (weight l)

module _ (src : Source) (valid : IsValidSource src) (rising : IsRising (λ (set : LinkSet). set.id) src.sets) (wanted : Wanted) (list : List SetLink) where
  -- ---- what is told takes no more than the list weighs

  module _ (weight : SetLink → Cost) (heavy : All (Weighs src weight) list) where
    -- what is told between two points, before what takes no more than some listed links of other sets weigh
    over_within : (y z : ℕ) (rest : Option (List SetLink)) (p s : ℕ → Bool) → connected (restored list src).sets y z ≡ true → ((id : ℕ) → p id ≡ true → s id ≡ true)
        → ((set : LinkSet) → HasRanks src y z set → (id : ℕ) → eqb id set.id ≡ true → s id ≡ true)
        → ((set : LinkSet) → HasRanks src y z set → (id : ℕ) → eqb id set.id ≡ true → p id ≡ true → ⊥)
        → IsWithin rest (weigh weight p list) → IsWithin (over src y z rest) (weigh weight s list)
    over_within y z rest p s joined below here not_here w = elim (opened_cases src list y z joined) [
      | inl clear ↦ record { list = w.list; is = rw (clear, w.is) refl; low = no_more_trans (cost w.list) (weigh weight p list) (weigh weight s list) w.low (weigh_weaker weight p s below list) }
      | inr opened ↦
          let ranks = has_ranks src rising y z opened.set opened.found in
          let same : ℕ → Bool = λ k. eqb k opened.set.id in
          let each : All (λ (l : SetLink). l.id ≡ opened.set.id → NoMore (cost opened.told) (weight l)) list =
          All-weaker (Weighs src weight) (λ l. l.id ≡ opened.set.id → NoMore (cost opened.told) (weight l)) (λ l weighs e. weighs opened.set (ap (set_at src.sets) e ∙ ranks.at) opened.told opened.least) list heavy in
          let front = weigh_named weight opened.set.id (cost opened.told) list each opened.named in
          let both = no_more_sum (cost opened.told) (cost w.list) (weigh weight same list) (weigh weight p list) front w.low in
          record {
            list = opened.told ++ w.list;
            is = rw (opened.needed, w.is) refl;
            low = subst (λ c. NoMore c (weigh weight s list)) (sym (cost-append opened.told w.list))
                (no_more_trans (sum_of_costs (cost opened.told) (cost w.list)) (sum_of_costs (weigh weight same list) (weigh weight p list)) (weigh weight s list) both
                (weigh_apart weight same p s (here opened.set ranks) below (not_here opened.set ranks) list));
          }
    ]

    -- over a set from a point to one of lower rank, before what is of that rank or lower: not both ends have the point's rank
    over_lower : (y z : ℕ) (rest : Option (List SetLink)) → source_rank src z < source_rank src y → connected (restored list src).sets y z ≡ true
        → IsWithin rest (weigh weight (both_up_to src (source_rank src z)) list) → IsWithin (over src y z rest) (weigh weight (not_both src (source_rank src y)) list)
    over_lower y z rest low joined w = over_within y z rest (both_up_to src (source_rank src z)) (not_both src (source_rank src y)) joined below here not_here w
      where
        below : (id : ℕ) → both_up_to src (source_rank src z) id ≡ true → not_both src (source_rank src y) id ≡ true
        below id e =
            let g = up_to_gives src (source_rank src z) id e in
            not_both_from src (source_rank src y) id g.0 g.1 (omega (arith, g.2, low)) (omega (arith, g.3, low)) (omega (arith, g.2, g.3, low))

        here : (s : LinkSet) → HasRanks src y z s → (id : ℕ) → eqb id s.id ≡ true → not_both src (source_rank src y) id ≡ true
        here s ranks id e =
            let at : set_at src.sets id ≡ Some s = ap (set_at src.sets) (eqb-true id s.id e) ∙ ranks.at in
            let ends = ranks.one (source_rank src y) (omega arith) (omega (arith, low)) in
            not_both_from src (source_rank src y) id s at ends.0 ends.1 (omega (arith, ranks.sum, low))

        not_here : (s : LinkSet) → HasRanks src y z s → (id : ℕ) → eqb id s.id ≡ true → both_up_to src (source_rank src z) id ≡ true → ⊥
        not_here s ranks id e up =
            let g = up_to_gives src (source_rank src z) id up in
            let at : set_at src.sets id ≡ Some s = ap (set_at src.sets) (eqb-true id s.id e) ∙ ranks.at in
            let same : g.0 ≡ s = same_Some g.0 s (sym g.1 ∙ at) in
            let high = ranks.high (source_rank src z) (subst (λ (t : LinkSet). source_rank src t.a ≤ source_rank src z) same g.2) (subst (λ (t : LinkSet). source_rank src t.b ≤ source_rank src z) same g.3) in
            omega (arith, high.0, low)

    -- over a set between mates, before what is not all of their rank
    over_even : (y z : ℕ) (rest : Option (List SetLink)) → source_rank src z ≡ source_rank src y → connected (restored list src).sets y z ≡ true
        → IsWithin rest (weigh weight (not_both src (source_rank src z)) list) → IsWithin (over src y z rest) (weigh weight (both_up_to src (source_rank src y)) list)
    over_even y z rest even joined w = over_within y z rest (not_both src (source_rank src z)) (both_up_to src (source_rank src y)) joined below here not_here w
      where
        below : (id : ℕ) → not_both src (source_rank src z) id ≡ true → both_up_to src (source_rank src y) id ≡ true
        below id e =
            let g = not_both_gives src (source_rank src z) id e in
            up_to_from src (source_rank src y) id g.0 g.1 (omega (arith, g.2, even)) (omega (arith, g.3, even))

        here : (s : LinkSet) → HasRanks src y z s → (id : ℕ) → eqb id s.id ≡ true → both_up_to src (source_rank src y) id ≡ true
        here s ranks id e =
            let at : set_at src.sets id ≡ Some s = ap (set_at src.sets) (eqb-true id s.id e) ∙ ranks.at in
            let ends = ranks.one (source_rank src y) (omega arith) (omega (arith, even)) in
            up_to_from src (source_rank src y) id s at ends.0 ends.1

        not_here : (s : LinkSet) → HasRanks src y z s → (id : ℕ) → eqb id s.id ≡ true → not_both src (source_rank src z) id ≡ true → ⊥
        not_here s ranks id e up =
            let g = not_both_gives src (source_rank src z) id up in
            let at : set_at src.sets id ≡ Some s = ap (set_at src.sets) (eqb-true id s.id e) ∙ ranks.at in
            let same : g.0 ≡ s = same_Some g.0 s (sym g.1 ∙ at) in
            let sum = subst (λ (t : LinkSet). source_rank src t.a + source_rank src t.b < source_rank src z + source_rank src z) same g.4 in
            omega (arith, sum, ranks.sum, even)

    -- what a way over the sets once the list is restored tells: what its point needs takes at most what of the list lies at its rank or lower weighs, and, without the
    -- mate at first, what its vias need at most what isn't all of its rank
    record Costs (may : Bool) (y : ℕ) : Type 0 where
      whole : IsWithin (mend src wanted y) (weigh weight (both_up_to src (source_rank src y)) list)
      on : (y ≡ src.dest) ⊎ ((row : Row) × (source_row src y ≡ Some row) × ((may ≡ true) ⊎ IsWithin (over_vias src wanted (mend src wanted) row) (weigh weight (not_both src (source_rank src y)) list)))

    -- what isn't all of a rank is of it or lower
    less : (n id : ℕ) → not_both src n id ≡ true → both_up_to src n id ≡ true
    less n id e = let g = not_both_gives src n id e in up_to_from src n id g.0 g.1 g.2 g.3

    way_costs : {may : Bool} {y : ℕ} → Way (restored list src) (is_strict src wanted) may y → Costs may y
    way_costs {may} {y} (arrive e) = record {
      whole = record {
        list = [];
        is = ap (mend src wanted) e ∙ mend_of_dest src valid wanted;
        low = record { links = omega arith; repairs = λ l. omega arith; marks = λ l r. omega arith };
      };
      on = inl e;
    }
    way_costs {may} {y} (by_via {z = z} row planned via joined rest) =
        let r = row_valid src valid y row planned in
        let rank : source_rank src y ≡ row.rank = rank_is src valid y row planned in
        let at : source_rank src row.point ≡ source_rank src y = ap (source_rank src) r.0 in
        let F : ℕ → Option (List SetLink) = λ z. over src row.point z (mend src wanted z) in
        let leads : IsVia src row z = All-contains (IsVia src row) (vias_wanted src wanted row) z (vias-wanted (IsVia src row) src wanted row r.1.vias) via in
        let low : source_rank src z < source_rank src row.point = omega (arith, via_lower src valid row z r.1 leads, rank, at) in
        let here : IsWithin (F z) (weigh weight (not_both src (source_rank src row.point)) list) = over_lower row.point z (mend src wanted z) low joined (way_costs rest).whole in
        let vias : IsWithin (over_vias src wanted (mend src wanted) row) (weigh weight (not_both src (source_rank src y)) list)
        = subst (λ n. IsWithin (over_vias src wanted (mend src wanted) row) (weigh weight (not_both src n) list)) at
        (All-contains (λ x. (bound : Cost) → IsWithin (F x) bound → IsWithin (least_of (map F (vias_wanted src wanted row))) bound) (vias_wanted src wanted row) z (least_within F (vias_wanted src wanted row)) via
        (weigh weight (not_both src (source_rank src row.point)) list) here) in
        record {
          whole = subst (λ (o : Option (List SetLink)). IsWithin o (weigh weight (both_up_to src (source_rank src y)) list)) (sym (mend_of_row src valid wanted y row planned))
              (within_more (row_mend src wanted (mend src wanted) row) (weigh weight (not_both src (source_rank src y)) list) (weigh weight (both_up_to src (source_rank src y)) list)
              (weigh_weaker weight (not_both src (source_rank src y)) (both_up_to src (source_rank src y)) (less (source_rank src y)) list)
              (cheaper_first (over_vias src wanted (mend src wanted) row) (mend_over_mate src wanted (mend src wanted) row) (weigh weight (not_both src (source_rank src y)) list) vias));
          on = inr (row, planned, inr vias);
        }
    way_costs {y = y} (by_mate row mate loose planned flag paired mate_planned joined rest) =
        let r = row_valid src valid y row planned in
        let m = row_valid src valid mate.point mate mate_planned in
        let at : source_rank src row.point ≡ source_rank src y = ap (source_rank src) r.0 in
        let is_mate : mate_row src row ≡ Some mate = rw (flag, paired, mate_planned) refl in
        let same_rank : mate.rank ≡ row.rank = (mate_row_valid src valid row mate r.1 is_mate).1 in
        let even : source_rank src mate.point ≡ source_rank src row.point = omega (arith, rank_is src valid mate.point mate mate_planned, rank_is src valid y row planned, same_rank, at) in
        let vias : IsWithin (over_vias src wanted (mend src wanted) mate) (weigh weight (not_both src (source_rank src mate.point)) list) =
        elim (way_costs rest).on [
          | inl e ↦ absurd (m.1.apart e)
          | inr w ↦ elim w.2 [
            | inl f ↦ absurd (true≢false (sym f))
            | inr b ↦ subst (λ (q : Row). IsWithin (over_vias src wanted (mend src wanted) q) (weigh weight (not_both src (source_rank src mate.point)) list)) (same_Some w.0 mate (sym w.1 ∙ mate_planned)) b
          ]
        ] in
        let here : IsWithin (over src row.point mate.point (over_vias src wanted (mend src wanted) mate)) (weigh weight (both_up_to src (source_rank src row.point)) list)
        = over_even row.point mate.point (over_vias src wanted (mend src wanted) mate) even joined vias in
        let needs : mend_over_mate src wanted (mend src wanted) row ≡ over src row.point mate.point (over_vias src wanted (mend src wanted) mate) = rw (loose, is_mate) refl in
        record {
          whole = subst (λ (o : Option (List SetLink)). IsWithin o (weigh weight (both_up_to src (source_rank src y)) list)) (sym (mend_of_row src valid wanted y row planned))
              (cheaper_second (over_vias src wanted (mend src wanted) row) (mend_over_mate src wanted (mend src wanted) row) (weigh weight (both_up_to src (source_rank src y)) list)
              (subst (λ n. IsWithin (mend_over_mate src wanted (mend src wanted) row) (weigh weight (both_up_to src n) list)) at
              (subst (λ (o : Option (List SetLink)). IsWithin o (weigh weight (both_up_to src (source_rank src row.point)) list)) (sym needs) here)));
          on = inr (row, planned, inl refl);
        }

    -- so what is told takes at most what the whole list weighs
    least_is : (y : ℕ) → Reaches src wanted y list → IsWithin (mend src wanted y) (weigh weight (λ id. true) list)
    least_is y reaches =
        within_more (mend src wanted y) (weigh weight (both_up_to src (source_rank src y)) list) (weigh weight (λ id. true) list) (weigh_weaker weight (both_up_to src (source_rank src y)) (λ id. true) (λ id e. refl) list)
        (way_costs (subst (λ b. Way (restored list src) b true y) (strict_restored list src wanted) (met_way (restored list src) (restored_valid list src valid) wanted y reaches))).whole

  -- ---- what is told does it, by links of the network

  abbrev Named : SetLink → Type 0
  Named l = names list l.id l.link ≡ true

  -- a way once the list is restored, where it names what is told; and each link that is told is one of the network
  record IsMended (may : Bool) (y : ℕ) (needed : List SetLink) : Type 0 where
    way : Way (restored list src) (is_strict src wanted) may y
    own : AreOf src needed

  between_own : (y z : ℕ) (front : List SetLink) → between src y z ≡ Some front → AreOf src front
  between_own y z front e = elim (between_cases src y z front e) [
    | inl clear ↦ subst (AreOf src) clear.1 (All-nil (IsOf src))
    | inr w ↦ subst (AreOf src) w.is
        (All-cons (IsOf src) (record { id = w.set.id; link = w.link }) [] (record { set = w.set; found = (has_ranks src rising y z w.set w.found).at; has = w.has }) (All-nil (IsOf src)))
  ]

  -- over a row's vias
  mended_over_vias : (row : Row) (may : Bool) (y : ℕ) (needed : List SetLink) → source_row src y ≡ Some row → IsValidRow src row
      → ((z : ℕ) (back : List SetLink) → source_rank src z < row.rank → mend src wanted z ≡ Some back → All Named back → IsMended true z back)
      → over_vias src wanted (mend src wanted) row ≡ Some needed → All Named needed → IsMended may y needed
  mended_over_vias row may y needed planned ok vias e named =
      let from = least_from (λ z. over src row.point z (mend src wanted z)) (Contains (vias_wanted src wanted row)) (vias_wanted src wanted row) needed (All-contains_itself (vias_wanted src wanted row)) e in
      let leads : IsVia src row from.0 = All-contains (IsVia src row) (vias_wanted src wanted row) from.0 (vias-wanted (IsVia src row) src wanted row ok.vias) from.1 in
      let way = over_cases src row.point from.0 (mend src wanted from.0) needed from.2 in
      let both = All-parts Named way.front way.back (subst (All Named) (sym way.is) named) in
      let rest = vias from.0 way.back (via_lower src valid row from.0 ok leads) way.then_ both.1 in
      record {
        way = by_via row planned from.1 (between_opens src list row.point from.0 way.front way.first both.0) rest.way;
        own = subst (AreOf src) way.is (All-append (IsOf src) way.front way.back (between_own row.point from.0 way.front way.first) rest.own);
      }

  mended : (n y : ℕ) (needed : List SetLink) → source_rank src y < n → mend src wanted y ≡ Some needed → All Named needed → IsMended true y needed
  mended zero y needed low e named = absurd (omega (arith, low))
  mended (suc n) y needed low e named = go (cases_eq y src.dest) (source_row src y) refl (λ z back lower up named. mended n z back (omega (arith, lower, low)) up named)
    where
      go : (y ≡ src.dest) ⊎ (y ≢ src.dest) → (o : Option Row) → source_row src y ≡ o
          → ((z : ℕ) (back : List SetLink) → source_rank src z < source_rank src y → mend src wanted z ≡ Some back → All Named back → IsMended true z back) → IsMended true y needed
      go (inl same) o f vias =
          let none : [] ≡ needed = same_Some [] needed (sym (ap (mend src wanted) same ∙ mend_of_dest src valid wanted) ∙ e) in
          record { way = arrive same; own = subst (AreOf src) none (All-nil (IsOf src)) }
      go (inr ne) None f vias =
          let other : eqb y src.dest ≡ false = ne_eqb y src.dest ne in
          let none : mend src wanted y ≡ None = mend_is src valid wanted y ∙ rw (other, f) refl in
          let no : None ≡ Some needed = sym none ∙ e in
          cc
      go (inr ne) (Some row) f vias =
          let r = row_valid src valid y row f in
          let rank = rank_is src valid y row f in
          let lower : (z : ℕ) (back : List SetLink) → source_rank src z < row.rank → mend src wanted z ≡ Some back → All Named back → IsMended true z back
          = λ z back l up named. vias z back (omega (arith, l, rank)) up named in
          let needs : row_mend src wanted (mend src wanted) row ≡ Some needed = sym (mend_of_row src valid wanted y row f) ∙ e in
          elim (cheaper_cases (over_vias src wanted (mend src wanted) row) (mend_over_mate src wanted (mend src wanted) row) needed needs) [
            | inl over_via ↦ mended_over_vias row true y needed f r.1 lower over_via named
            | inr over_the_mate ↦
                let m = over_mate_cases src wanted row needed over_the_mate in
                let has = mate_row_has src valid row m.mate r.1 m.is_mate in
                let okm = mate_row_valid src valid row m.mate r.1 m.is_mate in
                let way = over_cases src row.point m.mate.point (over_vias src wanted (mend src wanted) m.mate) needed m.needs in
                let both = All-parts Named way.front way.back (subst (All Named) (sym way.is) named) in
                let paired : src.mate_of row.point ≡ Some m.mate.point = has.0.paired ∙ ap (λ (q : Row). Some q.point) has.1 in
                let mate_planned : source_row src m.mate.point ≡ Some m.mate = subst (λ (q : Row). source_row src q.point ≡ Some q) has.1 has.0.planned in
                let rest = mended_over_vias m.mate false m.mate.point way.back mate_planned okm.0 (λ z back l up named. lower z back (omega (arith, l, okm.1)) up named) way.then_ both.1 in
                record {
                  way = by_mate row m.mate m.loose f has.2 paired mate_planned (between_opens src list row.point m.mate.point way.front way.first both.0) rest.way;
                  own = subst (AreOf src) way.is (All-append (IsOf src) way.front way.back (between_own row.point m.mate.point way.front way.first) rest.own);
                }
          ]

-- each element of a list is named by it
names_itself : (list : List SetLink) → All (λ (l : SetLink). names list l.id l.link ≡ true) list
names_itself [] = All-nil (λ (l : SetLink). names [] l.id l.link ≡ true)
names_itself (x ∷ list) =
    All-cons (λ (l : SetLink). names (x ∷ list) l.id l.link ≡ true) x list
    (or_left (eqb x.id x.id && eqb x.link.slc x.link.slc) (names list x.id x.link) (and_from (eqb x.id x.id) (eqb x.link.slc x.link.slc) (eq-eqb x.id x.id refl) (eq-eqb x.link.slc x.link.slc refl)))
    (All-weaker (λ (l : SetLink). names list l.id l.link ≡ true) (λ (l : SetLink). names (x ∷ list) l.id l.link ≡ true)
    (λ l e. or_right (eqb x.id l.id && eqb x.link.slc l.link.slc) (names list l.id l.link) e) list (names_itself list))

-- ---- what lists weigh

-- what each link takes
abbrev own_weight : SetLink → Cost
own_weight l = cost (l ∷ [])

own_total : (list : List SetLink) → weigh own_weight (λ id. true) list ≡ cost list
own_total [] = refl
own_total (l ∷ list) = ap (sum_of_costs (own_weight l)) (own_total list) ∙ sym (cost-append (l ∷ []) list)

-- a link of the network takes no less than what is told of its set
own_weighs : (src : Source) (l : SetLink) → IsOf src l → Weighs src own_weight l
own_weighs src l of set at told e =
    let same : of.set ≡ set = same_Some of.set set (sym of.found ∙ at) in
    let here : Contains set.links l.link = subst (λ (s : LinkSet). Contains s.links l.link) same of.has in
    let alone_is : IsWithin (alone set.id l.link) (own_weight l) = record { list = record { id = set.id; link = l.link } ∷ []; is = refl; low = record { links = omega arith; repairs = λ e. omega arith; marks = λ e r. omega arith } } in
    let w = All-contains (λ link. (bound : Cost) → IsWithin (alone set.id link) bound → IsWithin (least_link set.id set.links) bound) set.links l.link (least_within (alone set.id) set.links) here (own_weight l) alone_is in
    subst (λ (k : List SetLink). NoMore (cost k) (own_weight l)) (same_Some w.list told (sym w.is ∙ e)) w.low

-- the most that a link can take
abbrev full_weight : SetLink → Cost
full_weight l = record { links = 1; repairs = 1; marks = 5 }

full_total : (list : List SetLink) → (weigh full_weight (λ id. true) list).links ≡ length list
full_total [] = refl
full_total (l ∷ list) = omega (arith, full_total list)

full_weighs : (src : Source) (l : SetLink) → Weighs src full_weight l
full_weighs src l set at told e =
    let is = least_link_is set.id set.links told e in
    let small = cost_small (record { id = set.id; link = is.0 } ∷ []) in
    subst (λ (k : List SetLink). NoMore (cost k) (full_weight l)) is.2 (record { links = omega (arith, small.links); repairs = λ e. omega (arith, small.repairs); marks = λ e r. omega (arith, small.marks) })

-- THE LAW
module _ (src : Source) (valid : IsValidSource src) (rising : IsRising (λ (set : LinkSet). set.id) src.sets) (wanted : Wanted) where
  -- what is told is no longer than any list that does it
  pub fewest_is : (y : ℕ) (list : List SetLink) → Reaches src wanted y list → (told : List SetLink) × (mend src wanted y ≡ Some told) × (length told ≤ length list)
  fewest_is y list reaches =
      let w = least_is src valid rising wanted list full_weight (All-weaker (Contains list) (Weighs src full_weight) (λ l here. full_weighs src l) list (All-contains_itself list)) y reaches in
      (w.list, w.is, omega (arith, w.low.links, full_total list))

  -- and takes no more than any list of links of the network that does it
  least_own : (y : ℕ) (list : List SetLink) → AreOf src list → Reaches src wanted y list → IsWithin (mend src wanted y) (cost list)
  least_own y list own reaches =
      subst (IsWithin (mend src wanted y)) (own_total list) (least_is src valid rising wanted list own_weight (All-weaker (IsOf src) (Weighs src own_weight) (own_weighs src) list own) y reaches)

  pub mend_law_is : (y : ℕ) → IsMend src wanted y (mend src wanted y)
  mend_law_is y = go (mend src wanted y) refl
    where
      go : (o : Option (List SetLink)) → mend src wanted y ≡ o → IsMend src wanted y o
      go None e = λ list reaches. let w = fewest_is y list reaches in (let no : None ≡ Some w.0 = sym e ∙ w.1 in cc)
      go (Some needed) e =
          let told = mended src valid rising wanted needed (suc (source_rank src y)) y needed (omega arith) e (names_itself needed) in
          record {
            does = way_met (restored needed src) (restored_valid needed src valid) wanted y (subst (λ b. Way (restored needed src) b true y) (sym (strict_restored needed src wanted)) told.way);
            own = told.own;
            fewest = λ other reaches.
                let w = fewest_is y other reaches in
                omega (arith, w.2, ap (length {A = SetLink}) (same_Some needed w.0 (sym e ∙ w.1)));
            least = λ other own reaches.
                let w = least_own y other own reaches in
                no_more_is (cost needed) (cost other) (subst (λ (k : List SetLink). NoMore (cost k) (cost other)) (same_Some w.list needed (sym w.is ∙ e)) w.low);
          }
