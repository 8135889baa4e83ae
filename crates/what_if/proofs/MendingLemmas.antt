-- The links that have to be restored, worked out rank by rank.
use Rattle.std.proofs.Common.{◌≡◌, ◌≢◌, ℕ, ◌+◌, ◌<◌, ◌≤◌, ◌++◌, List, [], ◌∷◌, Option, Some, None, All, map, eqb, get_or, set, drop, true, false, refl, sym, ap, ◌∙◌, arith, inl, inr, ◌⊎◌, subst, length, slice_get}
use Rattle.std.proofs.lemmas.Bool.{ne_eqb, true≢false, cases_eq}
use Rattle.std.proofs.lemmas.List.{drop_more, map-append, length-set}
use Rattle.std.proofs.lemmas.List.Elements.{All-weaker}
use Rattle.std.proofs.lemmas.Option.{same_Some, slice_get_within, slice_get_cases, get_or_from_slice_get}
use Rattle.net_items.specs.declared.links.Link.{Link}
use Rattle.net_items.specs.declared.items.LinkSet.{LinkSet}
use Rattle.net_items.specs.declared.lists.Row.{Row}
use Rattle.net_items.specs.Keyed.{IsRising, IsFoundAt}
use Rattle.net_items.specs.Lookups.{concat_vias}
use Rattle.route_choice.specs.declared.choices.Far.TheVariants.{Allowed}
use Rattle.profile.specs.Status.{Source, source_row, source_rank, mate_row, status}
use Rattle.profile.specs.Valid.{IsVia, IsValidRow, IsValidSource}
use Rattle.profile.proofs.UnfoldingLemmas.{row_valid, rank_is, via_lower, mate_row_valid}
use Rattle.profile.proofs.PlacingLemmas.{row_at_place}
use Rattle.profile.proofs.SettledLemmas.{status_of_dest}
use Rattle.transfer_state.proofs.SweepLemmas.{slice_get-set_other, slice_get-set_same}
use Rattle.what_if.specs.declared.mending.SetLink.{SetLink}
use Rattle.what_if.specs.declared.wanted.Wanted.{Wanted}
use Rattle.what_if.specs.declared.wanted.Wanted.TheVariants as want
use Rattle.what_if.specs.Mending.{meets, restored_set, restored_link, restored, cheaper, least_of, mend, IsKnown, KnowsMends}
use Rattle.what_if.proofs.CostLemmas.{cheaper_assoc, least-append}
use Rattle.what_if.proofs.MendUnfoldingLemmas.{mend_is, mend_of_dest}
use Rattle.what_if.proofs.LeastLemmas.{fewest_is}

-- ---- class by class

-- one class more
pub class_more : (F : ℕ → Option (List SetLink)) (classes : List (List ℕ)) (i : ℕ) (vias : List ℕ) (least more all : Option (List SetLink)) → i < length classes → vias ≡ get_or classes i vias
    → more ≡ cheaper least (least_of (map F vias)) → cheaper least (least_of (map F (concat_vias (drop i classes)))) ≡ all → cheaper more (least_of (map F (concat_vias (drop (i + 1) classes)))) ≡ all
class_more F classes i vias least more all low is made so_far =
    let rest : List ℕ = concat_vias (drop (i + 1) classes) in
    ap (λ o. cheaper o (least_of (map F rest))) made
    ∙ (cheaper_assoc least (least_of (map F vias)) (least_of (map F rest))
    ∙ (ap (cheaper least) (sym (least-append (map F vias) (map F rest)))
    ∙ (ap (λ xs. cheaper least (least_of xs)) (sym (map-append F vias rest))
    ∙ (ap (λ v. cheaper least (least_of (map F (v ++ rest)))) is
    ∙ (ap (λ cs. cheaper least (least_of (map F (concat_vias cs)))) (sym (drop_more classes i vias low)) ∙ so_far)))))

-- ---- what is known

module _ (src : Source) (valid : IsValidSource src) (wanted : Wanted) where
  -- a point without a row that isn't the destination can't be helped
  pub mend_of_none : (y : ℕ) → y ≢ src.dest → source_row src y ≡ None → mend src wanted y ≡ None
  mend_of_none y ne e = let other : eqb y src.dest ≡ false = ne_eqb y src.dest ne in mend_is src valid wanted y ∙ rw (other, e) refl

  -- nor can one whose status isn't what is wanted
  pub mend_unplanned : (y : ℕ) → meets wanted (status src y) ≡ false → source_row src y ≡ None → mend src wanted y ≡ None
  mend_unplanned y down e = mend_of_none y (λ same. true≢false (sym (dest_meets wanted) ∙ (ap (meets wanted) (sym (status_of_dest src valid)) ∙ (ap (λ z. meets wanted (status src z)) (sym same) ∙ down)))) e
    where
      dest_meets : (w : Wanted) → meets w Allowed ≡ true
      dest_meets want.Reached = refl
      dest_meets want.Allowed = refl

  -- nothing is needed at the destination
  pub mend_at_dest : (y : ℕ) → y ≡ src.dest → mend src wanted y ≡ Some []
  mend_at_dest y e = ap (mend src wanted) e ∙ mend_of_dest src valid wanted

  -- what is known stands in the place of the row
  pub known_value : (mends : List (Option (List SetLink))) (y i : ℕ) (v : Option (List SetLink)) → y ≢ src.dest → IsFoundAt (λ (r : Row). r.point) y src.rows i → IsKnown src wanted mends y → v ≡ get_or mends i v → mend src wanted y ≡ v
  known_value mends y i v ne found known is = elim (slice_get_cases src.rows i).1 [
    | inl w ↦
        let point : w.0.point ≡ y = ap (λ (r : Row). r.point) (sym w.3) ∙ found.has_key w.0 in
        sym (is ∙ get_or_from_slice_get mends i (mend src wanted y) v (known ne i w.0 w.2 point))
    | inr w ↦ absurd (omega (arith, found.in_range, w.0))
  ]

  -- a via of a row is known where what the lower ranks need is
  pub via_known : (mends : List (Option (List SetLink))) (row : Row) (z : ℕ) → IsValidRow src row → KnowsMends src wanted mends row.rank → IsVia src row z → IsKnown src wanted mends z
  via_known mends row z ok knows via ne i r at point =
      let there : source_row src r.point ≡ Some r = row_at_place src valid i r at in
      let lower : source_rank src z < row.rank = via_lower src valid row z ok via in
      let rank : source_rank src r.point ≡ r.rank = rank_is src valid r.point r there in
      let low : r.rank < row.rank = omega (arith, lower, rank, ap (source_rank src) point) in
      knows i r at low ∙ ap (λ y. Some (mend src wanted y)) point

  pub vias_known : (mends : List (Option (List SetLink))) (row : Row) → IsValidRow src row → KnowsMends src wanted mends row.rank → All (All (IsKnown src wanted mends)) row.classes
  vias_known mends row ok knows =
      All-weaker (All (IsVia src row)) (All (IsKnown src wanted mends))
      (λ vias each. All-weaker (IsVia src row) (IsKnown src wanted mends) (λ z via. via_known mends row z ok knows via) vias each) row.classes ok.vias

  -- and so are those of its mate
  pub mate_known : (mends : List (Option (List SetLink))) (row mate : Row) → IsValidRow src row → KnowsMends src wanted mends row.rank → mate_row src row ≡ Some mate → All (All (IsKnown src wanted mends)) mate.classes
  mate_known mends row mate ok knows e =
      let m = mate_row_valid src valid row mate ok e in
      vias_known mends mate m.0 (subst (KnowsMends src wanted mends) (sym m.1) knows)

-- ---- rank by rank

-- what the lower ranks need stands, and so does what the rows of rank n in the places before i need
pub record IsMended (src : Source) (wanted : Wanted) (mends : List (Option (List SetLink))) (n i : ℕ) : Type 0 where
  pub together : length mends ≡ length src.rows
  pub below : KnowsMends src wanted mends n
  pub here : (k : ℕ) (row : Row) → k < i → slice_get src.rows k ≡ Some row → row.rank ≡ n → slice_get mends k ≡ Some (mend src wanted row.point)

module _ (src : Source) (wanted : Wanted) where
  pub nothing_mended : (mends : List (Option (List SetLink))) (n : ℕ) → length mends ≡ length src.rows → KnowsMends src wanted mends n → IsMended src wanted mends n 0
  nothing_mended mends n together below = record { together = together; below = below; here = λ k r low there rank. absurd (omega (arith, low)) }

  -- a row of this rank
  pub mended_more : (mends : List (Option (List SetLink))) (n i : ℕ) (row : Row) (m : Option (List SetLink)) → slice_get src.rows i ≡ Some row → row.rank ≡ n → m ≡ mend src wanted row.point → IsMended src wanted mends n i → IsMended src wanted (set mends i m) n (i + 1)
  mended_more mends n i row m at rank is old = record {
    together = length-set mends i m ∙ old.together;
    below = λ k r there low.
        let other : k ≢ i = λ e. (let same : r ≡ row = same_Some r row (sym there ∙ ap (slice_get src.rows) e ∙ at) in omega (arith, low, rank, ap (λ (q : Row). q.rank) same)) in
        slice_get-set_other mends i k m other ∙ old.below k r there low;
    here = λ k r low there same_rank. go k r low there same_rank (cases_eq k i);
  }
    where
      within : i < length mends
      within = omega (arith, slice_get_within src.rows i row at, old.together)

      go : (k : ℕ) (r : Row) → k < i + 1 → slice_get src.rows k ≡ Some r → r.rank ≡ n → (k ≡ i) ⊎ (k ≢ i) → slice_get (set mends i m) k ≡ Some (mend src wanted r.point)
      go k r low there same_rank (inl e) =
          let same : row ≡ r = same_Some row r (sym at ∙ ap (slice_get src.rows) (sym e) ∙ there) in
          ap (slice_get (set mends i m)) e ∙ (slice_get-set_same mends i m within ∙ ap Some (is ∙ ap (λ (q : Row). mend src wanted q.point) same))
      go k r low there same_rank (inr ne) = slice_get-set_other mends i k m ne ∙ old.here k r (omega (arith, low, ne)) there same_rank

  -- a row of another rank is passed
  pub mended_past : (mends : List (Option (List SetLink))) (n i : ℕ) (row : Row) → slice_get src.rows i ≡ Some row → row.rank ≢ n → IsMended src wanted mends n i → IsMended src wanted mends n (i + 1)
  mended_past mends n i row at other old = record {
    together = old.together;
    below = old.below;
    here = λ k r low there same_rank. elim (cases_eq k i) [
      | inl e ↦ absurd (other (ap (λ (q : Row). q.rank) (same_Some row r (sym at ∙ ap (slice_get src.rows) (sym e) ∙ there)) ∙ same_rank))
      | inr ne ↦ old.here k r (omega (arith, low, ne)) there same_rank
    ];
  }

  -- after all places
  pub mended_all : (mends : List (Option (List SetLink))) (n i : ℕ) → IsMended src wanted mends n i → length src.rows ≤ i → KnowsMends src wanted mends (n + 1)
  mended_all mends n i old all k r there low = elim (cases_eq r.rank n) [
    | inl e ↦ old.here k r (omega (arith, slice_get_within src.rows k r there, all)) there e
    | inr ne ↦ old.below k r there (omega (arith, low, ne))
  ]

-- no row has a rank below 1
pub none_below : (src : Source) → IsValidSource src → (wanted : Wanted) (mends : List (Option (List SetLink))) → KnowsMends src wanted mends 1
none_below src valid wanted mends i row there low =
    let ranked = (row_valid src valid row.point row (row_at_place src valid i row there)).1.ranked in
    absurd (omega (arith, low, ranked))

-- ---- a point whose status is what is wanted

links_unnamed : (id : ℕ) (links : List Link) → map (restored_link [] id) links ≡ links
links_unnamed id [] = refl
links_unnamed id (link ∷ links) = ap (λ rest. link ∷ rest) (links_unnamed id links)

sets_unnamed : (sets : List LinkSet) → map (restored_set []) sets ≡ sets
sets_unnamed [] = refl
sets_unnamed (set ∷ sets) =
    ap (λ rest. restored_set [] set ∷ rest) (sets_unnamed sets)
    ∙ ap (λ links. record set { links = links } ∷ sets) (links_unnamed set.id set.links)

pub none_restored : (src : Source) → restored [] src ≡ src
none_restored src = ap (λ sets. record src { sets = sets }) (sets_unnamed src.sets)

no_links : (list : List SetLink) → length list ≤ 0 → list ≡ []
no_links [] low = refl
no_links (l ∷ list) low = absurd (omega (arith, low))

pub reaching_mend : (src : Source) → IsValidSource src → IsRising (λ (set : LinkSet). set.id) src.sets → (wanted : Wanted) (y : ℕ) → meets wanted (status src y) ≡ true → mend src wanted y ≡ Some []
reaching_mend src valid rising wanted y up =
    let w = fewest_is src valid rising wanted y [] (subst (λ s. meets wanted (status s y) ≡ true) (sym (none_restored src)) up) in
    w.1 ∙ ap Some (no_links w.0 w.2)
