-- A status is what the rule gives from the statuses, and nothing else is.
use Rattle.std.proofs.Common.{◌≡◌, ℕ, zero, suc, ◌<◌, ◌≤◌, Option, Some, None, All, map, cond, eqb, Bool, true, false, refl, sym, ap, ◌∙◌, arith, inl, inr, subst}
use Rattle.std.proofs.lemmas.List.Elements.{All-weaker}
use Rattle.std.proofs.lemmas.Bool.{eqb-true}
use Rattle.route_choice.specs.declared.choices.Far.{Far}
use Rattle.route_choice.specs.declared.choices.Far.TheVariants.{Allowed, Prohibited}
use Rattle.net_items.specs.declared.lists.Row.{Row}
use Rattle.route_choice.specs.declared.choices.Choice.{Choice}
use Rattle.profile.specs.Status.{Source, source_row, source_rank, offer, offers, mate_row, mate_offer, choice_by, status_by, status_within, status}
use Rattle.profile.specs.Valid.{IsVia, IsValidRow, IsValidSource, HasMate}
use Rattle.link_sets.proofs.ListLemmas.{map_same, find_gives}

-- two tellings agree below a rank
pub record AgreeBelow (src : Source) (n : ℕ) (f g : ℕ → Far) : Type 0 where
  pub agree : (z : ℕ) → source_rank src z < n → f z ≡ g z

module _ (src : Source) (valid : IsValidSource src) where
  -- the row of a point is that point's, and valid
  pub row_valid : (y : ℕ) (row : Row) → source_row src y ≡ Some row → (row.point ≡ y) × IsValidRow src row
  row_valid y row e =
      let found : (eqb row.point y ≡ true) × IsValidRow src row = find_gives (λ r. eqb r.point y) (IsValidRow src) src.rows row valid.rows e in
      (eqb-true row.point y found.0, found.1)

  -- the rank of a point with a row
  pub rank_is : (y : ℕ) (row : Row) → source_row src y ≡ Some row → source_rank src y ≡ row.rank
  rank_is y row e = rw e refl

  -- the destination has no row
  pub rank_of_dest : source_rank src src.dest ≡ 0
  rank_of_dest = go (source_row src src.dest) refl
    where
      go : (o : Option Row) → source_row src src.dest ≡ o → source_rank src src.dest ≡ 0
      go None e = rw e refl
      go (Some row) e = let r = row_valid src.dest row e in absurd (r.1.apart r.0)

  -- a via has a lower rank
  pub via_lower : (row : Row) (z : ℕ) → IsValidRow src row → IsVia src row z → source_rank src z < row.rank
  via_lower row z ok via = elim via.leads [
    | inl e ↦ let zero_rank : source_rank src z ≡ 0 = ap (source_rank src) e ∙ rank_of_dest in omega (arith, zero_rank, ok.ranked)
    | inr low ↦ let is : source_rank src z ≡ low.below.rank = rank_is z low.below low.planned in omega (arith, is, low.lower)
  ]

  pub offer_same : (f g : ℕ → Far) (n : ℕ) → AgreeBelow src n f g → (y z : ℕ) → source_rank src z < n → offer src f y z ≡ offer src g y z
  offer_same f g n same y z lower = let e : f z ≡ g z = same.agree z lower in rw e refl

  pub offers_same : (f g : ℕ → Far) (row : Row) → IsValidRow src row → AgreeBelow src row.rank f g → offers src f row ≡ offers src g row
  offers_same f g row ok same =
      map_same (map (offer src f row.point)) (map (offer src g row.point)) row.classes
      (All-weaker (All (IsVia src row)) (λ vias. map (offer src f row.point) vias ≡ map (offer src g row.point) vias)
      (λ vias each. map_same (offer src f row.point) (offer src g row.point) vias
      (All-weaker (IsVia src row) (λ z. offer src f row.point z ≡ offer src g row.point z)
      (λ z via. offer_same f g row.rank same row.point z (via_lower row z ok via)) vias each))
      row.classes ok.vias)

  -- the mate's row
  pub mate_row_is : (row : Row) (e : row.mate ≡ true) (has : HasMate src row) → mate_row src row ≡ Some has.mate
  mate_row_is row e has = rw (e, has.paired, has.planned) refl

  -- the row that mate_row gives is that of a mate
  pub mate_row_has : (row mate : Row) → IsValidRow src row → mate_row src row ≡ Some mate → (has : HasMate src row) × (has.mate ≡ mate) × (row.mate ≡ true)
  mate_row_has row mate ok e = go row.mate refl
    where
      go : (b : Bool) → row.mate ≡ b → (has : HasMate src row) × (has.mate ≡ mate) × (row.mate ≡ true)
      go true t =
          let has : HasMate src row = ok.flagged t in
          let same : Some has.mate ≡ Some mate = sym (mate_row_is row t has) ∙ e in
          (has, cc, t)
      go false f = let none : None ≡ Some mate = rw f at e in cc

  -- the mate's row is valid and of the same rank
  pub mate_row_valid : (row mate : Row) → IsValidRow src row → mate_row src row ≡ Some mate → IsValidRow src mate × (mate.rank ≡ row.rank)
  mate_row_valid row mate ok e =
      let h = mate_row_has row mate ok e in
      (subst (IsValidRow src) h.1 (row_valid h.0.mate.point h.0.mate h.0.planned).1, subst (λ (m : Row). m.rank ≡ row.rank) h.1 h.0.same_rank)

  pub mate_offer_same : (f g : ℕ → Far) (row : Row) → IsValidRow src row → AgreeBelow src row.rank f g → mate_offer src f row ≡ mate_offer src g row
  mate_offer_same f g row ok same = go (mate_row src row) refl
    where
      go : (o : Option Row) → mate_row src row ≡ o → mate_offer src f row ≡ mate_offer src g row
      go None e = rw e refl
      go (Some mate) e =
          let m = mate_row_valid row mate ok e in
          let offers_are : offers src f mate ≡ offers src g mate = offers_same f g mate m.0 (subst (λ n. AgreeBelow src n f g) (sym m.1) same) in
          rw (e, offers_are) refl

  -- a row's choice rests on the far statuses of lower rank
  pub choice_same : (f g : ℕ → Far) (row : Row) → IsValidRow src row → AgreeBelow src row.rank f g → choice_by src f row ≡ choice_by src g row
  choice_same f g row ok same =
      let vias = offers_same f g row ok same in
      let mates = mate_offer_same f g row ok same in
      rw (vias, mates) refl

  pub status_by_same : (f g : ℕ → Far) (y : ℕ) → AgreeBelow src (source_rank src y) f g → status_by src f y ≡ status_by src g y
  status_by_same f g y same = go (source_row src y) refl
    where
      go : (o : Option Row) → source_row src y ≡ o → status_by src f y ≡ status_by src g y
      go None e = rw e refl
      go (Some row) e =
          let choices : choice_by src f row ≡ choice_by src g row =
          choice_same f g row (row_valid y row e).1 (subst (λ n. AgreeBelow src n f g) (rank_is y row e) same) in
          rw e (ap (λ (c : Choice). cond (eqb y src.dest) Allowed c.status) choices)

  -- at rank 0 there is the destination, or no row
  pub at_rank_zero : (f : ℕ → Far) (y : ℕ) → source_rank src y ≡ 0 → status_by src f y ≡ status_within src zero y
  unfolding status_within
  at_rank_zero f y h = go (source_row src y) refl
    where
      go : (o : Option Row) → source_row src y ≡ o → status_by src f y ≡ cond (eqb y src.dest) Allowed Prohibited
      go None e = rw e refl
      go (Some row) e = let low = (row_valid y row e).1.ranked in absurd (omega (arith, low, rank_is y row e))

  -- more ranks change nothing
  pub within_same : (m n : ℕ) (y : ℕ) → source_rank src y ≤ m → source_rank src y ≤ n → status_within src m y ≡ status_within src n y
  unfolding status_within
  within_same zero zero y hm hn = refl
  within_same zero (suc n) y hm hn = sym (at_rank_zero (status_within src n) y (omega arith))
  within_same (suc m) zero y hm hn = at_rank_zero (status_within src m) y (omega arith)
  within_same (suc m) (suc n) y hm hn =
      status_by_same (status_within src m) (status_within src n) y
      (record { agree = λ z low. within_same m n z (omega arith) (omega arith) })

  -- THE UNFOLDING EQUATION
  pub status_is : (y : ℕ) → status src y ≡ status_by src (status src) y
  unfolding status status_within
  status_is y =
      within_same (source_rank src y) (suc (source_rank src y)) y (omega arith) (omega arith)
      ∙ status_by_same (status_within src (source_rank src y)) (status src) y
      (record { agree = λ z low. within_same (source_rank src y) (source_rank src z) z (omega arith) (omega arith) })

  -- whatever obeys the rule at each point up to a rank is the status there
  pub status_alone : (f : ℕ → Far) (n : ℕ) → ((y : ℕ) → source_rank src y < n → f y ≡ status_by src f y) → (y : ℕ) → source_rank src y < n → f y ≡ status src y
  status_alone f zero obeys y low = absurd (omega arith)
  status_alone f (suc n) obeys y low =
      obeys y low
      ∙ status_by_same f (status src) y
      (record { agree = λ z lower. status_alone f n (λ x h. obeys x (omega arith)) z (omega arith) })
      ∙ sym (status_is y)
