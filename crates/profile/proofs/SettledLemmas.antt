-- A table of choices obeys the local rule exactly if it is the definition's; mates never use each other.
use Rattle.std.proofs.Common.{◌≡◌, ℕ, zero, suc, ◌<◌, ◌≤◌, List, Option, Some, None, All, map, cond, eqb, Bool, true, false, refl, sym, ap, ◌∙◌, arith, inl, inr, subst, length}
use Rattle.std.specs.Option.{option_map_or, option_and_then}
use Rattle.std.proofs.lemmas.List.Elements.{All-weaker, All-map}
use Rattle.std.proofs.lemmas.List.{length-map}
use Rattle.std.proofs.lemmas.Option.{same_Some}
use Rattle.std.proofs.lemmas.Bool.{eqb-true, eqb-false, eq-eqb, ne_eqb, false_from_ne_true}
use Rattle.route_choice.specs.declared.choices.Far.{Far}
use Rattle.route_choice.specs.declared.choices.Far.TheVariants.{Allowed, Prohibited}
use Rattle.net_items.specs.declared.lists.Row.{Row}
use Rattle.route_choice.specs.declared.choices.Choice.{Choice}
use Rattle.link_sets.specs.Availability.{connected}
use Rattle.route_choice.specs.Routes.{Offer, goodness, best, direct_choice, direct, mate_choice, choose}
use Rattle.profile.specs.Status.{Source, source_row, source_rank, offer, offers, mate_row, over_mate, mate_offer, choice_by, choice, status}
use Rattle.profile.specs.Local.{is_member}
use Rattle.profile.proofs.LocalLemmas.{heard, far_heard, local_choice, IsSettled, IsScratch}
use Rattle.profile.specs.Valid.{IsVia, IsValidRow, IsValidSource, HasMate, IsLower}
use Rattle.link_sets.proofs.ListLemmas.{map_same}
use Rattle.profile.proofs.UnfoldingLemmas.{row_valid, rank_is, via_lower, mate_row_has, status_is}
use Rattle.profile.proofs.ChoiceLemmas.{CanStand, direct_bound, direct_class_bound, choose_cases, choose_unused, direct_member, mate_is_member, mate_choice_member, heard_member, heard_other, heard_bound, choose_can_stand, best_can_stand}

module _ (src : Source) (valid : IsValidSource src) where
  pub status_of_dest : status src src.dest ≡ Allowed
  status_of_dest = status_is src valid src.dest ∙ (let e : eqb src.dest src.dest ≡ true = eq-eqb src.dest src.dest refl in rw e refl)

  -- the status of a point with a row is that of the row's choice
  pub status_of_row : (y : ℕ) (row : Row) → source_row src y ≡ Some row → status src y ≡ (choice src row).status
  status_of_row y row e =
      let r = row_valid src valid y row e in
      let apart : eqb y src.dest ≡ false = ne_eqb y src.dest (λ h. r.1.apart (r.0 ∙ h)) in
      status_is src valid y ∙ rw (apart, e) refl

  pub status_can_stand : (y : ℕ) → CanStand src.tfr (status src y)
  status_can_stand y = subst (CanStand src.tfr) (sym (status_is src valid y)) (go (eqb y src.dest) (source_row src y))
    where
      go : (b : Bool) (o : Option Row) → CanStand src.tfr (cond b Allowed (option_map_or (λ row. (choice_by src (status src) row).status) o Prohibited))
      go true o = record { stands = λ off h. cc }
      go false None = record { stands = λ off h. cc }
      go false (Some row) = choose_can_stand src.tfr (offers src (status src) row) (mate_offer src (status src) row)

  pub offers_can_stand : (row : Row) → CanStand src.tfr (best (offers src (status src) row))
  offers_can_stand row = best_can_stand src.tfr (offers src (status src) row)
      (All-map (All (λ o. CanStand src.tfr o.far)) (map (offer src (status src) row.point)) row.classes
      (λ k d h. All-map (λ o. CanStand src.tfr o.far) (offer src (status src) row.point) _ (λ i c l. each _)))
    where
      each : (z : ℕ) → CanStand src.tfr (offer src (status src) row.point z).far
      each z = go (connected src.sets row.point z)
        where
          go : (b : Bool) → CanStand src.tfr (cond b (status src z) Prohibited)
          go true = status_can_stand z
          go false = record { stands = λ off h. cc }

  -- the direct status of a row is no better than its best
  pub row_bound : (row : Row) → goodness (direct src.tfr (offers src (status src) row)) ≤ goodness (best (offers src (status src) row))
  row_bound row = direct_bound src.tfr (offers src (status src) row) (offers_can_stand row)

  -- a member of a row's direct choice has a lower rank
  pub direct_member_lower : (row : Row) (f : ℕ → Far) (z : ℕ) → IsValidRow src row → is_member z (direct_choice src.tfr (offers src f row)) ≡ true → source_rank src z < row.rank
  direct_member_lower row f z ok h =
      direct_member (λ v. source_rank src v < row.rank) src.tfr (offers src f row) z
      (All-map (All (λ o. source_rank src o.via < row.rank)) (map (offer src f row.point)) row.classes
      (All-weaker (All (IsVia src row)) (λ vias. All (λ o. source_rank src o.via < row.rank) (map (offer src f row.point) vias))
      (λ vias each. All-map (λ o. source_rank src o.via < row.rank) (offer src f row.point) vias
      (All-weaker (IsVia src row) (λ z. source_rank src z < row.rank) (λ z via. via_lower src valid row z ok via) vias each))
      row.classes ok.vias)) h

  -- what a mate's offer is
  pub mate_offer_is : (row : Row) (g : Row → Far) (m : Offer) → IsValidRow src row → option_and_then (λ mate. over_mate src row mate (g mate)) (mate_row src row) ≡ Some m
      → (has : HasMate src row) × (m.via ≡ has.mate.point) × (m.far ≡ g has.mate) × (row.mate ≡ true)
  mate_offer_is row g m ok e = go (mate_row src row) refl
    where
      joined : (has : HasMate src row) → row.mate ≡ true → (b : Bool) → cond b (Some (record { via = has.mate.point; far = g has.mate })) None ≡ Some m
          → (has : HasMate src row) × (m.via ≡ has.mate.point) × (m.far ≡ g has.mate) × (row.mate ≡ true)
      joined has t true e = let same : m ≡ record { via = has.mate.point; far = g has.mate } = cc in (has, ap (λ (o : Offer). o.via) same, ap (λ (o : Offer). o.far) same, t)
      joined has t false e = cc

      go : (o : Option Row) → mate_row src row ≡ o → (has : HasMate src row) × (m.via ≡ has.mate.point) × (m.far ≡ g has.mate) × (row.mate ≡ true)
      go None n = let none : None ≡ Some m = rw n at e in cc
      go (Some mate) n =
          let h = mate_row_has src valid row mate ok n in
          let is : mate_row src row ≡ Some h.0.mate = n ∙ ap Some (sym h.1) in
          joined h.0 h.2 (connected src.sets row.point h.0.mate.point) (rw is at e)

  -- what a row hears of its mate serves as the mate's direct status
  pub mate_heard : (row mate : Row) (c : Choice) (x : Option Offer) → IsValidRow src row → IsValidRow src mate → source_row src row.point ≡ Some row → mate.rank ≡ row.rank
      → c ≡ choose src.tfr (offers src (status src) mate) x
      → ((m : Offer) → x ≡ Some m → (m.via ≡ row.point) × (goodness m.far ≤ goodness (best (offers src (status src) row))))
      → choose src.tfr (offers src (status src) row) (over_mate src row mate (heard c row.point))
      ≡ choose src.tfr (offers src (status src) row) (over_mate src row mate (direct src.tfr (offers src (status src) mate)))
  mate_heard row mate c x ok okm planned rank is own =
      elim (choose_cases src.tfr (offers src (status src) mate) x) [
        | inl w ↦
            let o = own w.0 w.1 in
            let member : is_member row.point c ≡ true = subst (λ (k : Choice). is_member row.point k ≡ true) (sym (is ∙ w.3)) (subst (λ z. is_member row.point (mate_choice src.tfr z) ≡ true) (sym o.0) (mate_is_member src.tfr row.point)) in
            unused (heard c row.point) (direct src.tfr (offers src (status src) mate)) (connected src.sets row.point mate.point)
            (subst (λ (f : Far). goodness f ≤ goodness (best (offers src (status src) row))) (sym (heard_member c row.point member)) (omega arith))
            (omega (arith, row_bound mate, w.2, o.1))
        | inr e ↦
            let direct_is : c ≡ direct_choice src.tfr (offers src (status src) mate) = is ∙ e in
            let other : is_member row.point c ≡ false = false_from_ne_true (is_member row.point c) (λ t.
            let low = direct_member_lower mate (status src) row.point okm (subst (λ (k : Choice). is_member row.point k ≡ true) direct_is t) in
            omega (arith, low, rank_is src valid row.point row planned, rank)) in
            let says : heard c row.point ≡ direct src.tfr (offers src (status src) mate) = heard_other c row.point other ∙ ap (λ (k : Choice). k.status) direct_is in
            ap (λ (f : Far). choose src.tfr (offers src (status src) row) (over_mate src row mate f)) says
      ]
    where
      unused : (f g : Far) (b : Bool) → goodness f ≤ goodness (best (offers src (status src) row)) → goodness g ≤ goodness (best (offers src (status src) row))
          → choose src.tfr (offers src (status src) row) (cond b (Some (record { via = mate.point; far = f })) None)
          ≡ choose src.tfr (offers src (status src) row) (cond b (Some (record { via = mate.point; far = g })) None)
      unused f g true lf lg = choose_unused src.tfr (offers src (status src) row) (record { via = mate.point; far = f }) lf
          ∙ sym (choose_unused src.tfr (offers src (status src) row) (record { via = mate.point; far = g }) lg)
      unused f g false lf lg = refl

  -- what is heard of a via is its status
  pub via_heard : (entries : ℕ → Choice) (row : Row) (z : ℕ) → source_row src row.point ≡ Some row → IsValidRow src row → IsVia src row z
      → ((below : Row) → source_row src z ≡ Some below → below.rank < row.rank → entries z ≡ choice src below)
      → far_heard src entries row.point z ≡ status src z
  via_heard entries row z planned ok via right = go (eqb z src.dest) refl
    where
      lower : IsLower src row z → heard (entries z) row.point ≡ status src z
      lower low =
          let r = row_valid src valid z low.below low.planned in
          let is : entries z ≡ choice src low.below = right low.below low.planned low.lower in
          let rank : source_rank src row.point ≡ row.rank = rank_is src valid row.point row planned in
          let other : is_member row.point (choice src low.below) ≡ false = false_from_ne_true (is_member row.point (choice src low.below)) (λ t.
          elim (choose_cases src.tfr (offers src (status src) low.below) (mate_offer src (status src) low.below)) [
            | inl w ↦
                let m = mate_offer_is low.below (λ mate. direct src.tfr (offers src (status src) mate)) w.0 r.1 w.1 in
                let named : is_member row.point (mate_choice src.tfr w.0.via) ≡ true = subst (λ (k : Choice). is_member row.point k ≡ true) w.3 t in
                let same : m.0.mate.point ≡ row.point = sym m.1 ∙ mate_choice_member src.tfr w.0.via row.point named in
                let rank_there : source_rank src m.0.mate.point ≡ m.0.mate.rank = rank_is src valid m.0.mate.point m.0.mate m.0.planned in
                let both : source_rank src m.0.mate.point ≡ source_rank src row.point = ap (source_rank src) same in
                omega (arith, rank, rank_there, both, m.0.same_rank, low.lower)
            | inr e ↦
                let there = direct_member_lower low.below (status src) row.point r.1 (subst (λ (k : Choice). is_member row.point k ≡ true) e t) in
                omega (arith, there, rank, low.lower)
          ]) in
          ap (λ (c : Choice). heard c row.point) is ∙ heard_other (choice src low.below) row.point other ∙ sym (status_of_row z low.below low.planned)

      go : (b : Bool) → eqb z src.dest ≡ b → cond b Allowed (heard (entries z) row.point) ≡ status src z
      go true e = sym (ap (status src) (eqb-true z src.dest e) ∙ status_of_dest)
      go false e = elim via.leads [ inl d ↦ absurd (eqb-false z src.dest e d) | inr low ↦ lower low ]

  -- what a row is offered by what it hears, if it hears the right choices of lower rank
  pub local_offers : (entries : ℕ → Choice) (row : Row) → source_row src row.point ≡ Some row → IsValidRow src row
      → ((z : ℕ) (below : Row) → source_row src z ≡ Some below → below.rank < row.rank → entries z ≡ choice src below)
      → offers src (far_heard src entries row.point) row ≡ offers src (status src) row
  local_offers entries row planned ok right =
      map_same (map (offer src (far_heard src entries row.point) row.point)) (map (offer src (status src) row.point)) row.classes
      (All-weaker (All (IsVia src row)) (λ vias. map (offer src (far_heard src entries row.point) row.point) vias ≡ map (offer src (status src) row.point) vias)
      (λ vias each. map_same (offer src (far_heard src entries row.point) row.point) (offer src (status src) row.point) vias
      (All-weaker (IsVia src row) (λ z. offer src (far_heard src entries row.point) row.point z ≡ offer src (status src) row.point z)
      (λ z via. let e : far_heard src entries row.point z ≡ status src z = via_heard entries row z planned ok via (right z) in
      ap (λ (f : Far). record { via = z; far = cond (connected src.sets row.point z) f Prohibited }) e) vias each))
      row.classes ok.vias)

  -- a row that hears the right choices makes the right one
  pub local_choice_is : (entries : ℕ → Choice) (row : Row) → source_row src row.point ≡ Some row → IsValidRow src row
      → ((z : ℕ) (below : Row) → source_row src z ≡ Some below → below.rank < row.rank → entries z ≡ choice src below)
      → ((has : HasMate src row) → row.mate ≡ true →
      choose src.tfr (offers src (status src) row) (over_mate src row has.mate (heard (entries has.mate.point) row.point))
      ≡ choose src.tfr (offers src (status src) row) (over_mate src row has.mate (direct src.tfr (offers src (status src) has.mate))))
      → local_choice src entries row ≡ choice src row
  local_choice_is entries row planned ok right mates = rw (local_offers entries row planned ok right) (go (mate_row src row) refl)
    where
      go : (o : Option Row) → mate_row src row ≡ o →
          choose src.tfr (offers src (status src) row) (option_and_then (λ mate. over_mate src row mate (heard (entries mate.point) row.point)) (mate_row src row)) ≡ choice src row
      go None e = rw e refl
      go (Some mate) e =
          let h = mate_row_has src valid row mate ok e in
          let is : mate_row src row ≡ Some h.0.mate = e ∙ ap Some (sym h.1) in
          rw is (mates h.0 h.2)

  -- a row is found at its own point
  pub planned_there : (y : ℕ) (row : Row) → source_row src y ≡ Some row → source_row src row.point ≡ Some row
  planned_there y row e = ap (source_row src) (row_valid src valid y row e).0 ∙ e

  -- the mate of a mate is the row itself
  pub mate_of_mate : (row : Row) → source_row src row.point ≡ Some row → (has : HasMate src row) (back : HasMate src has.mate) → back.mate ≡ row
  mate_of_mate row planned has back =
      let point : back.mate.point ≡ row.point = valid.mates row.point has.mate.point back.mate.point has.paired back.paired in
      same_Some back.mate row (sym back.planned ∙ ap (source_row src) point ∙ planned)

  -- a row has one mate
  pub mate_alone : (row : Row) (one other : HasMate src row) → one.mate.point ≡ other.mate.point
  mate_alone row one other = same_Some one.mate.point other.mate.point (sym one.paired ∙ other.paired)

  pub mate_valid : (row : Row) (has : HasMate src row) → IsValidRow src has.mate
  mate_valid row has = (row_valid src valid has.mate.point has.mate has.planned).1

  -- the definition's choices obey the local rule
  pub scratch_settled : (entries : ℕ → Choice) → IsScratch src entries → IsSettled src entries
  scratch_settled entries scratch y row e =
      let r = row_valid src valid y row e in
      let planned = planned_there y row e in
      scratch y row e ∙ sym (local_choice_is entries row planned r.1 (λ z below p low. scratch z below p) (λ has t.
      mate_heard row has.mate (entries has.mate.point) (mate_offer src (status src) has.mate) r.1 (mate_valid row has) planned has.same_rank
      (scratch has.mate.point has.mate has.planned)
      (λ m own.
      let back = mate_offer_is has.mate (λ mate. direct src.tfr (offers src (status src) mate)) m (mate_valid row has) own in
      let is_row : back.0.mate ≡ row = mate_of_mate row planned has back.0 in (
        back.1 ∙ ap (λ (q : Row). q.point) is_row,
        subst (λ (f : Far). goodness f ≤ goodness (best (offers src (status src) row)))
            (sym (back.2 ∙ ap (λ (q : Row). direct src.tfr (offers src (status src) q)) is_row)) (row_bound row),
      ))))

  -- choices that obey the local rule are the definition's, rank by rank
  pub settled_scratch_below : (entries : ℕ → Choice) → IsSettled src entries → (n : ℕ) (y : ℕ) (row : Row) → source_row src y ≡ Some row → row.rank < n → entries y ≡ choice src row
  settled_scratch_below entries settled zero y row e low = absurd (omega arith)
  settled_scratch_below entries settled (suc n) y row e low =
      let r = row_valid src valid y row e in
      let planned = planned_there y row e in
      let right : (z : ℕ) (below : Row) → source_row src z ≡ Some below → below.rank < row.rank → entries z ≡ choice src below
      = λ z below p lower. settled_scratch_below entries settled n z below p (omega arith) in
      settled y row e ∙ local_choice_is entries row planned r.1 right (λ has t. with_mate entries settled row planned r.1 right has)
    where
      with_mate : (entries : ℕ → Choice) → IsSettled src entries → (row : Row) → source_row src row.point ≡ Some row → IsValidRow src row
          → ((z : ℕ) (below : Row) → source_row src z ≡ Some below → below.rank < row.rank → entries z ≡ choice src below) → (has : HasMate src row) →
          choose src.tfr (offers src (status src) row) (over_mate src row has.mate (heard (entries has.mate.point) row.point))
          ≡ choose src.tfr (offers src (status src) row) (over_mate src row has.mate (direct src.tfr (offers src (status src) has.mate)))
      with_mate entries settled row planned ok right has =
          let there = planned_there has.mate.point has.mate has.planned in
          let okm = mate_valid row has in
          let ours = local_offers entries row planned ok right in
          let theirs = local_offers entries has.mate there okm (λ z below p low. right z below p (omega (arith, low, has.same_rank))) in
          let mine : entries row.point ≡ choose src.tfr (offers src (status src) row) (heard_offer row)
          = settled row.point row planned ∙ ap (λ (os : List (List Offer)). choose src.tfr os (heard_offer row)) ours in
          let its : entries has.mate.point ≡ choose src.tfr (offers src (status src) has.mate) (heard_offer has.mate)
          = settled has.mate.point has.mate has.planned ∙ ap (λ (os : List (List Offer)). choose src.tfr os (heard_offer has.mate)) theirs in
          mate_heard row has.mate (entries has.mate.point) (heard_offer has.mate) ok okm planned has.same_rank its
          (λ m own.
          let back = mate_offer_is has.mate (λ mate. heard (entries mate.point) has.mate.point) m okm own in
          let is_row : back.0.mate ≡ row = mate_of_mate row planned has back.0 in (
            back.1 ∙ ap (λ (q : Row). q.point) is_row,
            subst (λ (f : Far). goodness f ≤ goodness (best (offers src (status src) row)))
                (sym (back.2 ∙ ap (λ (q : Row). heard (entries q.point) has.mate.point) is_row))
                (elim (choose_cases src.tfr (offers src (status src) row) (heard_offer row)) [
                  | inl w ↦
                      let m3 = mate_offer_is row (λ mate. heard (entries mate.point) row.point) w.0 ok w.1 in
                      let named : w.0.via ≡ has.mate.point = m3.1 ∙ mate_alone row m3.0 has in
                      let member : is_member has.mate.point (entries row.point) ≡ true
                      = subst (λ (k : Choice). is_member has.mate.point k ≡ true) (sym (mine ∙ w.3))
                      (subst (λ z. is_member has.mate.point (mate_choice src.tfr z) ≡ true) (sym named) (mate_is_member src.tfr has.mate.point)) in
                      subst (λ (f : Far). goodness f ≤ goodness (best (offers src (status src) row))) (sym (heard_member (entries row.point) has.mate.point member)) (omega arith)
                  | inr d ↦
                      let status_is_direct : (entries row.point).status ≡ direct src.tfr (offers src (status src) row) = ap (λ (k : Choice). k.status) (mine ∙ d) in
                      let bound : goodness (entries row.point).status ≤ goodness (best (offers src (status src) row))
                      = subst (λ (f : Far). goodness f ≤ goodness (best (offers src (status src) row))) (sym status_is_direct) (row_bound row) in
                      omega (arith, heard_bound (entries row.point) has.mate.point, bound)
                ]),
          ))
        where
          heard_offer : Row → Option Offer
          heard_offer q = option_and_then (λ mate. over_mate src q mate (heard (entries mate.point) q.point)) (mate_row src q)

  -- THE CERTIFICATE: the local rule holds of the definition's choices, and of no others
  pub settled_scratch : (entries : ℕ → Choice) → IsSettled src entries → IsScratch src entries
  settled_scratch entries settled y row e = settled_scratch_below entries settled (suc row.rank) y row e (omega arith)

  -- no two mates use each other
  pub mates_apart : (row : Row) → source_row src row.point ≡ Some row → (has : HasMate src row) → (choice src row).class ≡ 5 → (choice src has.mate).class ≡ 5 → ⊥
  mates_apart row planned has one other =
      elim (choose_cases src.tfr (offers src (status src) row) (mate_offer src (status src) row)) [
        | inl w ↦ elim (choose_cases src.tfr (offers src (status src) has.mate) (mate_offer src (status src) has.mate)) [
          | inl v ↦
              let ok = (row_valid src valid row.point row planned).1 in
              let g : Row → Far = λ mate. direct src.tfr (offers src (status src) mate) in
              let mine = mate_offer_is row g w.0 ok w.1 in
              let its = mate_offer_is has.mate g v.0 (mate_valid row has) v.1 in
              let its_row : its.0.mate ≡ row = mate_of_mate row planned has its.0 in
              let my_mate : mine.0.mate ≡ has.mate = same_Some mine.0.mate has.mate (sym mine.0.planned ∙ ap (source_row src) (mate_alone row mine.0 has) ∙ has.planned) in
              let a : goodness w.0.far ≡ goodness (g has.mate) = ap goodness (mine.2 ∙ ap g my_mate) in
              let b : goodness v.0.far ≡ goodness (g row) = ap goodness (its.2 ∙ ap g its_row) in
              omega (arith, a, b, w.2, v.2, row_bound row, row_bound has.mate)
          | inr e ↦ few_classes has.mate (mate_valid row has) (sym (ap (λ (k : Choice). k.class) e) ∙ other)
        ]
        | inr e ↦ few_classes row (row_valid src valid row.point row planned).1 (sym (ap (λ (k : Choice). k.class) e) ∙ one)
      ]
    where
      few_classes : (q : Row) → IsValidRow src q → (direct_choice src.tfr (offers src (status src) q)).class ≡ 5 → ⊥
      few_classes q ok e =
          let len : length (offers src (status src) q) ≡ length q.classes = length-map q.classes (map (offer src (status src) q.point)) in
          omega (arith, direct_class_bound src.tfr (offers src (status src) q), len, ok.few, e)

  -- the same of two rows whose points are mates: a choice of class 5 shows the flag
  pub mates_apart_by : (row mate : Row) → source_row src row.point ≡ Some row → source_row src mate.point ≡ Some mate → src.mate_of row.point ≡ Some mate.point → (choice src row).class ≡ 5 → (choice src mate).class ≡ 5 → ⊥
  mates_apart_by row mate planned mate_planned paired one other =
      elim (choose_cases src.tfr (offers src (status src) row) (mate_offer src (status src) row)) [
        | inl w ↦
            let ok = (row_valid src valid row.point row planned).1 in
            let has = (mate_offer_is row (λ m. direct src.tfr (offers src (status src) m)) w.0 ok w.1).0 in
            let point : has.mate.point ≡ mate.point = same_Some has.mate.point mate.point (sym has.paired ∙ paired) in
            let same : has.mate ≡ mate = same_Some has.mate mate (sym has.planned ∙ ap (source_row src) point ∙ mate_planned) in
            mates_apart row planned has one (ap (λ (q : Row). (choice src q).class) same ∙ other)
        | inr e ↦
            let ok = (row_valid src valid row.point row planned).1 in
            let len : length (offers src (status src) row) ≡ length row.classes = length-map row.classes (map (offer src (status src) row.point)) in
            let class : (direct_choice src.tfr (offers src (status src) row)).class ≡ 5 = sym (ap (λ (k : Choice). k.class) e) ∙ one in
            omega (arith, direct_class_bound src.tfr (offers src (status src) row), len, ok.few, class)
      ]
