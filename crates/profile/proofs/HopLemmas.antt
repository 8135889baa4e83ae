-- A trace stops exactly if the status is prohibited, and else leads to the destination.
use Rattle.std.proofs.Common.{◌≡◌, ◌≢◌, ℕ, zero, suc, ◌+◌, ◌-◌, ◌*◌, ◌<◌, ◌≤◌, List, [], ◌∷◌, Option, Some, None, All, map, cond, eqb, get_or, Bool, true, false, refl, sym, ap, ◌∙◌, arith, inl, inr, ◌⊎◌, subst, length}
use Rattle.std.specs.Prelude.{is_some}
use Rattle.std.specs.Option.{option_map, option_map_or}
use Rattle.std.proofs.lemmas.List.{get_or-map, length-map}
use Rattle.std.proofs.lemmas.List.Elements.{All-head, All-tail, All-map}
use Rattle.std.proofs.lemmas.Option.{same_Some}
use Rattle.std.proofs.lemmas.Bool.{eqb-true, eq-eqb, ne_eqb}
use Rattle.route_choice.specs.declared.choices.Far.{Far}
use Rattle.route_choice.specs.declared.choices.Far.TheVariants.{Allowed, Restricted, Prohibited}
use Rattle.net_items.specs.declared.lists.Row.{Row}
use Rattle.route_choice.specs.declared.choices.Choice.{Choice}
use Rattle.profile.specs.declared.tables.LinkRef.{LinkRef}
use Rattle.profile.specs.declared.hops.Hop.{Hop}
use Rattle.link_sets.specs.Availability.{connected}
use Rattle.sls_share.specs.Share.{via_of, share_of}
use Rattle.route_choice.specs.Routes.{Offer, goodness, same_far, best, has_via, member_at, no_choice, direct_status, lowest, direct_choice, direct, mate_choice}
use Rattle.profile.specs.Status.{Source, source_row, source_rank, offer, offers, mate_offer, choice, status}
use Rattle.profile.specs.Valid.{IsVia, IsValidRow, IsValidSource, HasMate, HasFewLinks}
use Rattle.profile.specs.Whole.{size_of, carrier, link_of}
use Rattle.profile.specs.Traces.{hops_along, hops_within, trace_of, Leads, IsTrace}
use Rattle.profile.proofs.UnfoldingLemmas.{row_valid, via_lower, status_is}
use Rattle.profile.proofs.ChoiceLemmas.{best_offered, direct_cases, direct_reached, choose_cases}
use Rattle.profile.proofs.SettledLemmas.{status_of_dest, status_of_row, planned_there, mate_offer_is, mates_apart}
use Rattle.profile.proofs.WalkLemmas.{choose_reached, mate_choice_reached, direct_only, offer_from, mate_offer_joined}
use Rattle.profile.proofs.TraceLemmas.{IsLowest, lowest_is, position_filled}
use Rattle.profile.proofs.AvailabilityLemmas.{joined_link}
use Rattle.sls_share.proofs.CoverLemmas.{share_low}

-- how many hops are enough: one less than twice the rank, or twice the rank if the mate is used
abbrev pub hops_enough : Source → ℕ → ℕ
hops_enough src y = option_map_or (λ row. cond (eqb (choice src row).class 5) (2 * row.rank) (2 * row.rank - 1)) (source_row src y) 0

-- the offer of the member at a position
pub member_offer : (P : Offer → Type 0) (b : Far) (class : List Offer) (position z : ℕ) → All P class → member_at b class position ≡ Some z → (o : Offer) × P o × (o.via ≡ z) × (same_far o.far b ≡ true)
member_offer P b [] position z each e = cc
member_offer P b (o ∷ os) zero z each e = go (same_far o.far b) refl
  where
    go : (t : Bool) → same_far o.far b ≡ t → (o : Offer) × P o × (o.via ≡ z) × (same_far o.far b ≡ true)
    go true t = let here : Some o.via ≡ Some z = rw t at e in (o, All-head P o os each, same_Some o.via z here, t)
    go false t = let none : None ≡ Some z = rw t at e in cc
member_offer P b (o ∷ os) (suc position) z each e = member_offer P b os position z (All-tail P o os each) e

-- one of two places
pub two_places : (first second : Option ℕ) (k z : ℕ) → get_or (first ∷ second ∷ []) k None ≡ Some z → (first ≡ Some z) ⊎ (second ≡ Some z)
two_places first second zero z e = inl e
two_places first second (suc zero) z e = inr e
two_places first second (suc (suc k)) z e = cc

some_is : {X : Type 0} (o : Option X) → is_some o ≡ true → (x : X) × (o ≡ Some x)
some_is None e = cc
some_is (Some x) e = (x, refl)

nothing_there : (k : ℕ) → get_or {A = Option ℕ} (None ∷ None ∷ []) k None ≡ None
nothing_there zero = refl
nothing_there (suc zero) = refl
nothing_there (suc (suc k)) = refl

-- a choice with no member has no carrier
pub no_carrier : (row : Row) (s : ℕ) → carrier row no_choice s ≡ None
no_carrier row s = nothing_there (via_of (size_of row 0) false false s)

-- the size of a class by its number
pub size_is : (row : Row) (position : ℕ) → position < 4 → size_of row (1 + position) ≡ length (get_or row.classes position [])
size_is row position low =
    let other : eqb (1 + position) 5 ≡ false = ne_eqb (1 + position) 5 (omega arith) in
    let back : 1 + position - 1 ≡ position = omega arith in
    rw other (ap (λ n. length (get_or row.classes n [])) back)

module _ (src : Source) where
  pub hops_at_dest : (n y s : ℕ) → eqb y src.dest ≡ true → hops_within src n y s ≡ Some []
  unfolding hops_along
  hops_at_dest zero y s e = rw e refl
  hops_at_dest (suc n) y s e = rw e refl

  pub hops_end : (y s : ℕ) → eqb y src.dest ≡ false → hops_within src zero y s ≡ None
  unfolding hops_along
  hops_end y s e = rw e refl

  pub hops_without_row : (n y s : ℕ) → eqb y src.dest ≡ false → source_row src y ≡ None → hops_within src (suc n) y s ≡ None
  unfolding hops_along
  hops_without_row n y s e none = rw (e, none) refl

  pub hops_without_via : (n y s : ℕ) (row : Row) → eqb y src.dest ≡ false → source_row src y ≡ Some row → carrier row (choice src row) s ≡ None → hops_within src (suc n) y s ≡ None
  unfolding hops_along
  hops_without_via n y s row e planned none = rw (e, planned, none) refl

  pub hops_without_link : (n y s : ℕ) (row : Row) (z : ℕ) → eqb y src.dest ≡ false → source_row src y ≡ Some row → carrier row (choice src row) s ≡ Some z → link_of src row (choice src row) s ≡ None → hops_within src (suc n) y s ≡ None
  unfolding hops_along
  hops_without_link n y s row z e planned carried none = let l = rw carried at none in rw (e, planned, carried, l) refl

  pub hops_more : (n y s : ℕ) (row : Row) (z : ℕ) (link : LinkRef) → eqb y src.dest ≡ false → source_row src y ≡ Some row → carrier row (choice src row) s ≡ Some z → link_of src row (choice src row) s ≡ Some link
      → hops_within src (suc n) y s ≡ option_map (λ rest. record { from = y; link = link; to = z } ∷ rest) (hops_within src n z s)
  unfolding hops_along
  hops_more n y s row z link e planned carried linked = let l = rw carried at linked in rw (e, planned, carried, l) refl

-- where a hop goes: to a point that isn't prohibited and needs fewer hops
pub record Step (src : Source) (row : Row) (s : ℕ) : Type 0 where
  pub to : ℕ
  pub carried : carrier row (choice src row) s ≡ Some to
  pub joined : connected src.sets row.point to ≡ true
  pub reached : 0 < goodness (status src to)
  pub less : hops_enough src to < hops_enough src row.point

module _ (src : Source) (valid : IsValidSource src) where
  enough_is : (y : ℕ) (row : Row) → source_row src y ≡ Some row → hops_enough src y ≡ cond (eqb (choice src row).class 5) (2 * row.rank) (2 * row.rank - 1)
  enough_is y row e = rw e refl

  enough_most : (y : ℕ) → hops_enough src y ≤ 2 * source_rank src y
  enough_most y = go (source_row src y) refl
    where
      go : (o : Option Row) → source_row src y ≡ o → hops_enough src y ≤ 2 * source_rank src y
      go None e = rw e (let z : 0 ≤ 2 * 0 = omega arith in z)
      go (Some row) e = rw e (split (eqb (choice src row).class 5))
        where
          split : (b : Bool) → cond b (2 * row.rank) (2 * row.rank - 1) ≤ 2 * row.rank
          split true = omega arith
          split false = omega arith

  enough_least : (y : ℕ) (row : Row) → source_row src y ≡ Some row → 2 * row.rank - 1 ≤ hops_enough src y
  enough_least y row e = subst (λ n. 2 * row.rank - 1 ≤ n) (sym (enough_is y row e)) (split (eqb (choice src row).class 5))
    where
      split : (b : Bool) → 2 * row.rank - 1 ≤ cond b (2 * row.rank) (2 * row.rank - 1)
      split true = omega arith
      split false = omega arith

  -- over the direct class
  direct_step : (row : Row) (s : ℕ) → source_row src row.point ≡ Some row → choice src row ≡ direct_choice src.tfr (offers src (status src) row) → 0 < goodness (best (offers src (status src) row)) → Step src row s
  direct_step row s planned is above =
      let ok = (row_valid src valid row.point row planned).1 in
      let all : List (List Offer) = offers src (status src) row in
      let b : Far = best all in
      let apart : b ≢ Prohibited = λ e. (let z : goodness b ≡ 0 = ap goodness e in omega (arith, z, above)) in
      let open_best : same_far b Prohibited ≡ false = ne_eqb (goodness b) 0 (omega (arith, above)) in
      let found : IsLowest src.tfr b 1 all (lowest src.tfr b 1 all) = lowest_is src.tfr b 1 all (best_offered all b refl apart) in
      let whole : direct_choice src.tfr all ≡ lowest src.tfr b 1 all = rw open_best refl in
      let count : length all ≡ length row.classes = length-map row.classes (map (offer src (status src) row.point)) in
      let within : found.position < length row.classes = omega (arith, found.within, count) in
      at_place row s planned ok b above found.position within (omega (arith, within, ok.few)) (is ∙ whole ∙ found.is) found.offers_it
    where
      at_place : (row : Row) (s : ℕ) → source_row src row.point ≡ Some row → IsValidRow src row → (b : Far) → 0 < goodness b → (position : ℕ) → position < length row.classes → position < 4
          → choice src row ≡ record { class = 1 + position; members = member_at b (get_or (offers src (status src) row) position []) 0 ∷ member_at b (get_or (offers src (status src) row) position []) 1 ∷ []; status = direct_status src.tfr b (1 + position) }
          → has_via b (get_or (offers src (status src) row) position []) ≡ true → Step src row s
      at_place row s planned ok b above position within low is has =
          let class : List Offer = get_or (offers src (status src) row) position [] in
          let vias : List ℕ = get_or row.classes position [] in
          let class_is : class ≡ map (offer src (status src) row.point) vias = get_or-map (map (offer src (status src) row.point)) row.classes position [] [] within in
          let count : length class ≡ length vias = ap (length {A = Offer}) class_is ∙ length-map vias (offer src (status src) row.point) in
          let sized : size_of row (1 + position) ≡ length class = size_is row position low ∙ sym count in
          let small : length class ≤ 2 = omega (arith, count, ok.small position [] within) in
          let filled = some_is _ (position_filled b class s small has) in
          let first : Option ℕ = member_at b class 0 in
          let second : Option ℕ = member_at b class 1 in
          let each : All (λ o. (o ≡ offer src (status src) row.point o.via) × IsVia src row o.via) class
          = subst (All (λ o. (o ≡ offer src (status src) row.point o.via) × IsVia src row o.via)) (sym class_is)
          (All-map (λ o. (o ≡ offer src (status src) row.point o.via) × IsVia src row o.via) (offer src (status src) row.point) vias (λ k d l. (refl, ok.vias position [] within k d l))) in
          let offering : (o : Offer) × ((o ≡ offer src (status src) row.point o.via) × IsVia src row o.via) × (o.via ≡ filled.0) × (same_far o.far b ≡ true)
          = elim (two_places first second _ filled.0 filled.1) [
            | inl e ↦ member_offer (λ o. (o ≡ offer src (status src) row.point o.via) × IsVia src row o.via) b class 0 filled.0 each e
            | inr e ↦ member_offer (λ o. (o ≡ offer src (status src) row.point o.via) × IsVia src row o.via) b class 1 filled.0 each e
          ] in
          let o : Offer = offering.0 in
          let good : 0 < goodness (offer src (status src) row.point o.via).far = subst (λ (p : Offer). 0 < goodness p.far) offering.1.0 (omega (arith, above, eqb-true (goodness o.far) (goodness b) offering.3)) in
          let from = offer_from src valid row.point o.via good in
          let lower : source_rank src filled.0 < row.rank = subst (λ z. source_rank src z < row.rank) offering.2 (via_lower src valid row o.via ok offering.1.1) in
          record {
            to = filled.0;
            carried = ap (λ (c : Choice). carrier row c s) is ∙ ap (λ n. get_or (first ∷ second ∷ []) (via_of n (is_some first) (is_some second) s) None) sized ∙ filled.1;
            joined = ap (connected src.sets row.point) (sym offering.2) ∙ from.0;
            reached = subst (λ z. 0 < goodness (status src z)) offering.2 from.1;
            less = omega (arith, lower, enough_most filled.0, enough_least row.point row planned);
          }

  -- over the mate
  mate_step : (row : Row) (s : ℕ) → source_row src row.point ≡ Some row → (m : Offer) → mate_offer src (status src) row ≡ Some m → goodness (best (offers src (status src) row)) < goodness m.far → choice src row ≡ mate_choice src.tfr m.via → Step src row s
  mate_step row s planned m offered better is =
      let ok = (row_valid src valid row.point row planned).1 in
      let g : Row → Far = λ mate. direct src.tfr (offers src (status src) mate) in
      let h = mate_offer_is src valid row g m ok offered in
      let has : HasMate src row = h.0 in
      let one : (choice src row).class ≡ 5 = ap (λ (c : Choice). c.class) is in
      let mine : eqb (choice src row).class 5 ≡ true = eq-eqb (choice src row).class 5 one in
      let its : eqb (choice src has.mate).class 5 ≡ false = ne_eqb (choice src has.mate).class 5 (λ other. mates_apart src valid row planned has one other) in
      let here : hops_enough src row.point ≡ 2 * row.rank = enough_is row.point row planned ∙ rw mine refl in
      let there : hops_enough src has.mate.point ≡ 2 * has.mate.rank - 1 = enough_is has.mate.point has.mate has.planned ∙ rw its refl in
      let good : 0 < goodness (g has.mate) = omega (arith, better, ap goodness h.2) in
      let arrives : 0 < goodness (status src has.mate.point)
      = subst (λ (f : Far). 0 < goodness f) (sym (status_of_row src valid has.mate.point has.mate has.planned))
      (choose_reached src.tfr (offers src (status src) has.mate) (mate_offer src (status src) has.mate) (direct_only src.tfr (offers src (status src) has.mate) good)) in
      record {
        to = m.via;
        carried = ap (λ (c : Choice). carrier row c s) is;
        joined = mate_offer_joined src valid row g m ok offered;
        reached = subst (λ z. 0 < goodness (status src z)) (sym h.1) arrives;
        less = omega (arith, here, there, ap (hops_enough src) h.1, has.same_rank, ok.ranked);
      }

  pub step : (row : Row) (s : ℕ) → source_row src row.point ≡ Some row → 0 < goodness (status src row.point) → Step src row s
  step row s planned above =
      elim (choose_cases src.tfr (offers src (status src) row) (mate_offer src (status src) row)) [
        | inl w ↦ mate_step row s planned w.0 w.1 w.2 w.3
        | inr e ↦
            let good : 0 < goodness (direct src.tfr (offers src (status src) row)) = subst (λ (f : Far). 0 < goodness f) (status_of_row src valid row.point row planned ∙ ap (λ (c : Choice). c.status) e) above in
            direct_step row s planned e (direct_only src.tfr (offers src (status src) row) good)
      ]

  -- a point that isn't prohibited has a row, but for the destination
  row_there : (y : ℕ) → eqb y src.dest ≡ false → 0 < goodness (status src y) → (row : Row) × (source_row src y ≡ Some row)
  row_there y e above = go (source_row src y) refl
    where
      go : (o : Option Row) → source_row src y ≡ o → (row : Row) × (source_row src y ≡ Some row)
      go None n =
          let shut : status src y ≡ Prohibited = status_is src valid y ∙ rw (e, n) refl in
          let none : goodness (status src y) ≡ 0 = ap goodness shut in
          absurd (omega (arith, none, above))
      go (Some row) n = (row, n)

  module _ (few : All HasFewLinks src.sets) (s : ℕ) (low : s < 16) where
    -- the link of a hop
    linked : (row : Row) (hop : Step src row s) → (link : LinkRef) × (link_of src row (choice src row) s ≡ Some link)
    linked row hop =
        let r = joined_link src.sets row.point hop.to (share_of (size_of row (choice src row).class) s) few hop.joined (share_low (size_of row (choice src row).class) s low) in
        (r.0, rw hop.carried r.1)

    -- each SLS of a point that isn't prohibited has a link
    pub link_serves : (row : Row) → source_row src row.point ≡ Some row → status src row.point ≢ Prohibited → is_some (link_of src row (choice src row) s) ≡ true
    link_serves row planned usable =
        let r = linked row (step row s planned (above (status src row.point) usable)) in
        ap (λ (o : Option LinkRef). is_some o) r.1
      where
        above : (f : Far) → f ≢ Prohibited → 0 < goodness f
        above Allowed ne = omega arith
        above Restricted ne = omega arith
        above Prohibited ne = absurd (ne refl)

    -- enough hops lead to the destination
    pub trace_reaches : (n y : ℕ) → hops_enough src y ≤ n → 0 < goodness (status src y) → (hops : List Hop) × (hops_within src n y s ≡ Some hops) × (length hops ≤ hops_enough src y) × Leads y hops src.dest
    trace_reaches zero y enough above = go (eqb y src.dest) refl
      where
        go : (b : Bool) → eqb y src.dest ≡ b → (hops : List Hop) × (hops_within src zero y s ≡ Some hops) × (length hops ≤ hops_enough src y) × Leads y hops src.dest
        go true e = ([], hops_at_dest src zero y s e, omega arith, eqb-true y src.dest e)
        go false e =
            let there = row_there y e above in
            let ranked = (row_valid src valid y there.0 there.1).1.ranked in
            absurd (omega (arith, enough, enough_least y there.0 there.1, ranked))
    trace_reaches (suc n) y enough above = go (eqb y src.dest) refl (λ z l r. trace_reaches n z l r)
      where
        go : (b : Bool) → eqb y src.dest ≡ b
            → ((z : ℕ) → hops_enough src z ≤ n → 0 < goodness (status src z) → (hops : List Hop) × (hops_within src n z s ≡ Some hops) × (length hops ≤ hops_enough src z) × Leads z hops src.dest)
            → (hops : List Hop) × (hops_within src (suc n) y s ≡ Some hops) × (length hops ≤ hops_enough src y) × Leads y hops src.dest
        go true e rec = ([], hops_at_dest src (suc n) y s e, omega arith, eqb-true y src.dest e)
        go false e rec =
            let there = row_there y e above in
            let row : Row = there.0 in
            let at : row.point ≡ y = (row_valid src valid y row there.1).0 in
            let hop : Step src row s = step row s (planned_there src valid y row there.1) (subst (λ q. 0 < goodness (status src q)) (sym at) above) in
            let fewer : hops_enough src hop.to < hops_enough src y = subst (λ q. hops_enough src hop.to < hops_enough src q) at hop.less in
            let rest = rec hop.to (omega (arith, fewer, enough)) hop.reached in
            let link = linked row hop in (
              record { from = y; link = link.0; to = hop.to } ∷ rest.0,
              hops_more src n y s row hop.to link.0 e there.1 hop.carried link.1 ∙ ap (option_map (λ (rest : List Hop). record { from = y; link = link.0; to = hop.to } ∷ rest)) rest.1,
              omega (arith, fewer, rest.2),
              (refl, rest.3),
            )

    -- none if the status is prohibited
    pub trace_stops : (n y : ℕ) → status src y ≡ Prohibited → hops_within src n y s ≡ None
    trace_stops n y stopped = go n (source_row src y) refl
      where
        apart : eqb y src.dest ≡ false
        apart = ne_eqb y src.dest (λ e. (let both : Allowed ≡ Prohibited = sym (ap (status src) e ∙ status_of_dest src valid) ∙ stopped in cc))

        go : (n : ℕ) (o : Option Row) → source_row src y ≡ o → hops_within src n y s ≡ None
        go zero o e = hops_end src y s apart
        go (suc n) None e = hops_without_row src n y s apart e
        go (suc n) (Some row) e = hops_without_via src n y s row apart e (ap (λ (c : Choice). carrier row c s) none ∙ no_carrier row s)
          where
            closed : (choice src row).status ≡ Prohibited
            closed = sym (status_of_row src valid y row e) ∙ stopped

            shut : 0 < goodness (choice src row).status → ⊥
            shut above = let zero_is : goodness (choice src row).status ≡ 0 = ap goodness closed in omega (arith, zero_is, above)

            none : choice src row ≡ no_choice
            none = elim (choose_cases src.tfr (offers src (status src) row) (mate_offer src (status src) row)) [
              | inl w ↦ absurd (shut (subst (λ (c : Choice). 0 < goodness c.status) (sym w.3) (mate_choice_reached src.tfr w.0.via)))
              | inr d ↦ elim (direct_cases src.tfr (offers src (status src) row)) [
                | inl h ↦ d ∙ h.1
                | inr h ↦ absurd (shut (subst (λ (c : Choice). 0 < goodness c.status) (sym d) (direct_reached src.tfr (offers src (status src) row) h.0)))
              ]
            ]

    pub trace_is : (y : ℕ) → IsTrace src y (trace_of src y s)
    trace_is y = go (status src y) refl
      where
        reached : 0 < goodness (status src y) → IsTrace src y (trace_of src y s)
        reached above =
            let r = trace_reaches (2 * source_rank src y) y (enough_most y) above in
            subst (IsTrace src y) (sym r.1) (record {
              usable = λ e. (let z : goodness (status src y) ≡ 0 = ap goodness e in omega (arith, z, above));
              few = omega (arith, r.2, enough_most y);
              leads = r.3;
            })

        go : (f : Far) → status src y ≡ f → IsTrace src y (trace_of src y s)
        go Allowed e = reached (subst (λ (f : Far). 0 < goodness f) (sym e) (let z : 0 < 2 = omega arith in z))
        go Restricted e = reached (subst (λ (f : Far). 0 < goodness f) (sym e) (let z : 0 < 1 = omega arith in z))
        go Prohibited e = subst (IsTrace src y) (sym (trace_stops (2 * source_rank src y) y e)) e
