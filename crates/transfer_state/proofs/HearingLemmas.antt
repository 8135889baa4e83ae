-- What a row hears over its vias by what is kept: the row of a via doesn't lead back, so what it tells is its status.
use Rattle.std.proofs.Common.{◌≡◌, ◌≢◌, ℕ, zero, suc, ◌+◌, ◌-◌, ◌<◌, List, [], ◌∷◌, Option, Some, None, All, get_or, set, map, cond, eqb, Bool, true, false, refl, sym, ap, ◌∙◌, arith, inl, inr, subst, length, slice_get}
use Rattle.std.proofs.lemmas.List.Elements.{All-weaker}
use Rattle.std.proofs.lemmas.Bool.{cases_eq, eqb-true, eqb-false, ne_eqb}
use Rattle.std.proofs.lemmas.List.{length-set}
use Rattle.std.proofs.lemmas.Option.{get_or_from_slice_get, same_Some, slice_get-get_or, slice_get_within}
use Rattle.net_items.specs.declared.lists.Row.{Row}
use Rattle.route_choice.specs.declared.choices.Far.{Far}
use Rattle.route_choice.specs.declared.choices.Far.TheVariants.{Allowed, Prohibited}
use Rattle.link_sets.specs.Availability.{connected}
use Rattle.link_sets.proofs.ListLemmas.{map_same}
use Rattle.profile.specs.declared.tables.RowState.{RowState}
use Rattle.profile.specs.declared.tables.Table.{Table}
use Rattle.profile.specs.Local.{is_at, is_member}
use Rattle.profile.specs.Status.{Source, source_row, offer, offers}
use Rattle.profile.specs.Valid.{IsLower, IsValidRow, IsVia}
use Rattle.profile.specs.Whole.{heard_in, heard_from}
use Rattle.profile.proofs.CertificateLemmas.{connected_back, heard_in_messages}
use Rattle.profile.proofs.ChoiceLemmas.{heard_other}
use Rattle.profile.proofs.LocalLemmas.{heard}
use Rattle.profile.proofs.PlacingLemmas.{row_at_place}
use Rattle.profile.proofs.UnfoldingLemmas.{rank_is, row_valid, via_lower}
use Rattle.excerpts.specs.Excerpt.{source_of, ExcerptValue, IsRight}
use Rattle.transfer_state.specs.Complaints.{far_from, kept_table}
use Rattle.transfer_state.specs.Kept.{KeptValue, member_in, opened, used_member}
use Rattle.transfer_state.specs.Told.{far_at, TellsKept}
use Rattle.transfer_state.proofs.AuditLemmas.{heard_of_kept, kept_points}
use Rattle.transfer_state.proofs.MatchLemmas.{state_at}
use Rattle.transfer_state.proofs.SweepLemmas.{far_at-set_other, far_at-set_same, found_place}

not_there : (y : ℕ) (o : Option ℕ) → (o ≡ Some y → ⊥) → is_at y o ≡ false
not_there y None apart = refl
not_there y (Some w) apart = ne_eqb w y (λ e. apart (ap Some e))

-- what is read in a place of a class stands in a class
read_via : (P : ℕ → Type 0) (classes : List (List ℕ)) (n position y : ℕ) → All (All P) classes → slice_get (get_or classes n []) position ≡ Some y → P y
read_via P [] n position y all at = cc
read_via P (vias ∷ classes) zero position y all at = subst P (get_or_from_slice_get vias position y y at) (all 0 [] (omega arith) position y (slice_get_within vias position y at))
read_via P (vias ∷ classes) (suc n) position y all at = read_via P classes n position y (λ k d low. all (suc k) d (omega arith)) at

no_state : RowState
no_state = record { point = 0; choice = record { class = 0; members = []; status = Prohibited }; links = []; messages = [] }

no_kept : KeptValue
no_kept = record { class = 0; first = false; second = false; status = Prohibited }

module _ (x : ExcerptValue) (right : IsRight x) where
  abbrev src : Source
  src = source_of x

  -- the status that is kept of one more row is told
  pub told_more : (ks : List KeptValue) (fars : List Far) (i : ℕ) (row : Row) (k : KeptValue) → slice_get src.rows i ≡ Some row → slice_get ks i ≡ Some k → TellsKept src ks fars i → TellsKept src ks (set fars row.point k.status) (i + 1)
  told_more ks fars i row k here kept told = record {
    coded = length-set fars row.point k.status ∙ told.coded;
    dest = far_at-set_other fars row.point src.dest k.status (λ e. ok.apart (sym e)) ∙ told.dest;
    rows = λ j r l low there its.
        elim (cases_eq j i) [
          | inl e ↦
              let same_row : row ≡ r = same_Some row r (sym here ∙ ap (slice_get src.rows) (sym e) ∙ there) in
              let same_kept : k ≡ l = same_Some k l (sym kept ∙ ap (slice_get ks) (sym e) ∙ its) in
              ap (λ (q : Row). far_at (set fars row.point k.status) q.point) (sym same_row) ∙ far_at-set_same fars row.point k.status (omega (arith, ok.coded, told.coded)) ∙ ap (λ (m : KeptValue). m.status) same_kept
          | inr ne ↦ far_at-set_other fars row.point r.point k.status (other j r (omega arith) there) ∙ told.rows j r l (omega arith) there its
        ];
  }
    where
      ok : IsValidRow src row
      ok = (row_valid src right.valid row.point row (row_at_place src right.valid i row here)).1

      other : (j : ℕ) (r : Row) → j < i → slice_get src.rows j ≡ Some r → r.point ≢ row.point
      other j r low there e =
          let apart : (get_or src.rows j row).point < (get_or src.rows i row).point = right.valid.once j i row low (slice_get_within src.rows i row here) in
          let mine : (get_or src.rows i row).point ≡ row.point = ap (λ (q : Row). q.point) (get_or_from_slice_get src.rows i row row here) in
          let its : (get_or src.rows j row).point ≡ r.point = ap (λ (q : Row). q.point) (get_or_from_slice_get src.rows j r row there) in
          omega (arith, apart, mine, its, e)

  -- the row of a via doesn't lead back, whatever is kept of it
  not_back : (row below : Row) (k : KeptValue) → source_row src row.point ≡ Some row → IsValidRow src row → IsVia src row below.point → IsValidRow src below → below.rank < row.rank → below.point ≢ src.dest
      → is_member row.point (opened src below k) ≡ false
  not_back row below k planned ok via there lower apart =
      let first = not_used k.first 0 in
      let second = not_used k.second 1 in
      rw (first, second) refl
    where
      not_mate : src.mate_of below.point ≡ Some row.point → ⊥
      not_mate e = apart (via.not_mate (right.network.mates below.point row.point e).back)

      not_via : (n position : ℕ) → slice_get (get_or below.classes n []) position ≡ Some row.point → ⊥
      not_via n position e =
          let low = via_lower src right.valid below row.point there (read_via (IsVia src below) below.classes n position row.point there.vias e) in
          omega (arith, low, lower, rank_is src right.valid row.point row planned)

      not_in : (position : ℕ) (b : Bool) → cond b (src.mate_of below.point) (slice_get (get_or below.classes (k.class - 1) []) position) ≡ Some row.point → ⊥
      not_in position true e = not_mate e
      not_in position false e = not_via (k.class - 1) position e

      not_used : (used : Bool) (position : ℕ) → is_at row.point (used_member src below k.class used position) ≡ false
      not_used true position = not_there row.point (member_in src below k.class position) (not_in position (eqb k.class 5))
      not_used false position = refl

  module _ (ks : List KeptValue) (together : length ks ≡ length src.rows) where
    abbrev table : Table
    table = kept_table src ks

    -- what is heard of the row in a place
    heard_there : (i z y : ℕ) (below : Row) (k : KeptValue) → slice_get src.rows i ≡ Some below → slice_get ks i ≡ Some k → below.point ≡ z → src.is_stp below.point ≡ true → y ≢ src.dest → y < 16384 → connected src.sets below.point y ≡ true
        → heard_from table y z ≡ heard (opened src below k) y
    heard_there i z y below k here kept point stp apart coded joined =
        let found = state_at table.rows src.rows i z no_state (kept_points src ks together).points right.rows_rise (slice_get_within src.rows i below here)
        (λ r. ap (λ (q : Row). q.point) (get_or_from_slice_get src.rows i below r here) ∙ point) in
        let by_place : heard_in (get_or table.rows i no_state).messages y ≡ heard_from table y z = rw found refl in
        sym by_place ∙ sym (heard_of_kept src ks y i below k no_state here kept) ∙ heard_in_messages src below (opened src below k) y stp apart coded joined

    module _ (fars : List Far) (told : TellsKept src ks fars (length src.rows)) where
      -- what a row hears over a via is the status that is kept
      via_told : (row : Row) (z : ℕ) → source_row src row.point ≡ Some row → IsValidRow src row → IsVia src row z → connected src.sets row.point z ≡ true → far_at fars z ≡ far_from src table row.point z
      via_told row z planned ok via joined = go (eqb z src.dest) refl
        where
          lower : eqb z src.dest ≡ false → IsLower src row z → far_at fars z ≡ heard_from table row.point z
          lower e low =
              let below = row_valid src right.valid z low.below low.planned in
              let place = found_place src.rows z low.below low.planned in
              let within = slice_get_within src.rows place.0 low.below place.1 in
              let k : KeptValue = get_or ks place.0 no_kept in
              let kept : slice_get ks place.0 ≡ Some k = slice_get-get_or ks place.0 no_kept (omega (arith, within, together)) in
              let back : connected src.sets low.below.point row.point ≡ true = ap (λ w. connected src.sets w row.point) below.0 ∙ connected_back src.sets z row.point ∙ joined in
              let other : is_member row.point (opened src low.below k) ≡ false =
              not_back row low.below k planned ok (subst (IsVia src row) (sym below.0) via) below.1 low.lower (λ d. eqb-false z src.dest e (sym below.0 ∙ d)) in
              ap (far_at fars) (sym below.0) ∙ told.rows place.0 low.below k within place.1 kept ∙ sym (heard_other (opened src low.below k) row.point other)
              ∙ sym (heard_there place.0 z row.point low.below k place.1 kept below.0 (ap src.is_stp below.0 ∙ low.transfers) ok.apart ok.coded back)

          go : (b : Bool) → eqb z src.dest ≡ b → far_at fars z ≡ cond b Allowed (heard_from table row.point z)
          go true e = ap (far_at fars) (eqb-true z src.dest e) ∙ told.dest
          go false e = elim via.leads [ inl d ↦ absurd (eqb-false z src.dest e d) | inr low ↦ lower e low ]

      offer_told : (row : Row) (z : ℕ) → source_row src row.point ≡ Some row → IsValidRow src row → IsVia src row z → offer src (far_at fars) row.point z ≡ offer src (far_from src table row.point) row.point z
      offer_told row z planned ok via = split (connected src.sets row.point z) refl
        where
          split : (b : Bool) → connected src.sets row.point z ≡ b → offer src (far_at fars) row.point z ≡ offer src (far_from src table row.point) row.point z
          split false j = rw j refl
          split true j = let same = via_told row z planned ok via j in rw (j, same) refl

      -- what a row hears over its vias is what a table of the statuses that are kept offers it
      pub offers_told : (row : Row) → source_row src row.point ≡ Some row → IsValidRow src row → offers src (far_at fars) row ≡ offers src (far_from src table row.point) row
      offers_told row planned ok =
          map_same (map (offer src (far_at fars) row.point)) (map (offer src (far_from src table row.point) row.point)) row.classes
          (All-weaker (All (IsVia src row)) (λ vias. map (offer src (far_at fars) row.point) vias ≡ map (offer src (far_from src table row.point) row.point) vias)
          (λ vias each. map_same (offer src (far_at fars) row.point) (offer src (far_from src table row.point) row.point) vias
          (All-weaker (IsVia src row) (λ z. offer src (far_at fars) row.point z ≡ offer src (far_from src table row.point) row.point z)
          (λ z via. offer_told row z planned ok via) vias each))
          row.classes ok.vias)
