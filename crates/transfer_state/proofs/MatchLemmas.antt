-- Whether a row's state, and a whole table, is what its neighbours' messages make it.
use Rattle.std.proofs.Common.{◌≡◌, ℕ, zero, suc, ◌+◌, ◌<◌, List, [], ◌∷◌, Some, None, map, eqb, Bool, true, false, refl, sym, ap, ◌∙◌, arith, inl, inr, subst, length, get_or}
use Rattle.std.specs.Prelude.{find, slice_get}
use Rattle.std.proofs.lemmas.Bool.{eq-eqb, ne_eqb, cases_eq}
use Rattle.std.proofs.lemmas.List.{length-map}
use Rattle.std.proofs.lemmas.Option.{same_Some, slice_get_read}
use Rattle.net_items.specs.declared.lists.Row.{Row}
use Rattle.net_items.specs.Keyed.{IsRising, IsFoundAt, IsGapAt}
use Rattle.route_choice.specs.declared.choices.Far.{Far}
use Rattle.profile.specs.declared.tables.RowState.{RowState}
use Rattle.profile.specs.declared.tables.Table.{Table}
use Rattle.profile.specs.Status.{Source}
use Rattle.profile.specs.Valid.{IsValidSource}
use Rattle.profile.specs.Whole.{heard_in, heard_from, scratch, IsSettledTable}
use Rattle.profile.proofs.CertificateLemmas.{scratch_table}
use Rattle.transfer_state.specs.declared.complaints.Clause.{Clause}
use Rattle.transfer_state.specs.declared.complaints.Complaint.{Complaint}
use Rattle.transfer_state.specs.Complaints.{right_state, HasPoints, AreRightBefore, IsWrongIn, IsFirstComplaint}
use Rattle.transfer_state.proofs.SweepLemmas.{at_index}

-- two lists are equal exactly if what is left of both is
pub record GoTogether {X : Type 0} (xs ys left right : List X) : Type 0 where
  pub to : left ≡ right → xs ≡ ys
  pub from : xs ≡ ys → left ≡ right

-- they do so at first
pub all_left : {X : Type 0} (xs ys right : List X) → right ≡ ys → GoTogether xs ys xs right
all_left xs ys right same = record { to = λ e. e ∙ same; from = λ e. e ∙ sym same }

-- they do so while the same is left
pub same_left : {X : Type 0} (xs ys left right other : List X) → right ≡ other → GoTogether xs ys left right → GoTogether xs ys left other
same_left xs ys left right other same so_far = record { to = λ e. so_far.to (e ∙ sym same); from = λ e. so_far.from e ∙ same }

-- ---- points in their places

-- two lists of the same points are of one length
pub points_length : (states : List RowState) (rows : List Row) → map (λ (state : RowState). state.point) states ≡ map (λ (row : Row). row.point) rows → length states ≡ length rows
points_length states rows e = sym (length-map states (λ (state : RowState). state.point)) ∙ ap (length {A = ℕ}) e ∙ length-map rows (λ (row : Row). row.point)

-- they have the same point in each place
pub points_at : (states : List RowState) (rows : List Row) (k : ℕ) (state : RowState) (row : Row) → map (λ (state : RowState). state.point) states ≡ map (λ (row : Row). row.point) rows
    → slice_get states k ≡ Some state → slice_get rows k ≡ Some row → state.point ≡ row.point
points_at [] rows k state row e a b = cc
points_at (s ∷ ss) [] k state row e a b = cc
points_at (s ∷ ss) (r ∷ rs) zero state row e a b =
    let first : s.point ≡ r.point = cc in
    let sa : s ≡ state = same_Some s state a in
    let rb : r ≡ row = same_Some r row b in
    ap (λ (s : RowState). s.point) (sym sa) ∙ first ∙ ap (λ (r : Row). r.point) rb
points_at (s ∷ ss) (r ∷ rs) (suc k) state row e a b =
    let rest : map (λ (state : RowState). state.point) ss ≡ map (λ (row : Row). row.point) rs = cc in points_at ss rs k state row rest a b

-- the state in the place of a point's row is the one that is found for the point
pub state_at : (states : List RowState) (rows : List Row) (i z : ℕ) (d : RowState) → map (λ (state : RowState). state.point) states ≡ map (λ (row : Row). row.point) rows
    → IsRising (λ (r : Row). r.point) rows → i < length rows → ((r : Row) → (get_or rows i r).point ≡ z) → find (λ state. eqb state.point z) states ≡ Some (get_or states i d)
state_at states [] i z d e rising low key = absurd (omega arith)
state_at [] (r ∷ rs) i z d e rising low key = cc
state_at (s ∷ ss) (r ∷ rs) zero z d e rising low key =
    let first : s.point ≡ r.point = cc in rw (eq-eqb s.point z (first ∙ key r)) refl
state_at (s ∷ ss) (r ∷ rs) (suc i) z d e rising low key =
    let first : s.point ≡ r.point = cc in
    let rest : map (λ (state : RowState). state.point) ss ≡ map (λ (row : Row). row.point) rs = cc in
    let above : r.point < (get_or rs i r).point = at_index (λ (q : Row). r.point < q.point) rs i r rising.0 (omega arith) in
    let other : eqb s.point z ≡ false = ne_eqb s.point z (λ same. omega (arith, above, same, first, key r)) in
    rw other (state_at ss rs i z d rest rising.1 (omega arith) key)

-- no state is found for a point with no row
pub state_nowhere : (states : List RowState) (rows : List Row) (z : ℕ) → map (λ (state : RowState). state.point) states ≡ map (λ (row : Row). row.point) rows
    → find (λ r. eqb r.point z) rows ≡ None → find (λ state. eqb state.point z) states ≡ None
state_nowhere [] rows z e none = refl
state_nowhere (s ∷ ss) [] z e none = cc
state_nowhere (s ∷ ss) (r ∷ rs) z e none = go (eqb r.point z) refl (state_nowhere ss rs z)
  where
    go : (b : Bool) → eqb r.point z ≡ b
        → (map (λ (state : RowState). state.point) ss ≡ map (λ (row : Row). row.point) rs → find (λ r. eqb r.point z) rs ≡ None → find (λ state. eqb state.point z) ss ≡ None)
        → find (λ state. eqb state.point z) (s ∷ ss) ≡ None
    go true t rec = let there : Some r ≡ None = rw t at none in cc
    go false t rec =
        let first : s.point ≡ r.point = cc in
        let other : eqb s.point z ≡ false = ap (λ p. eqb p z) first ∙ t in
        let later : find (λ r. eqb r.point z) rs ≡ None = rw t at none in
        rw other (rec (cc) later)

module _ (src : Source) (table : Table) (has : HasPoints src table) where
  -- what is heard of a point, by the place of its row
  pub heard_at : (y z i : ℕ) (d : RowState) → IsRising (λ (r : Row). r.point) src.rows → IsFoundAt (λ (r : Row). r.point) z src.rows i → heard_in (get_or table.rows i d).messages y ≡ heard_from table y z
  heard_at y z i d rising found = let there = state_at table.rows src.rows i z d has.points rising found.in_range found.has_key in rw there refl

  pub heard_nowhere : (y z i : ℕ) → IsGapAt (λ (r : Row). r.point) z src.rows i → Far.Prohibited ≡ heard_from table y z
  heard_nowhere y z i gap = let none = state_nowhere table.rows src.rows z has.points gap.absent in rw none refl

-- what is read in a place of a list stands there
pub element_read : {X : Type 0} (seen xs : List X) (i : ℕ) (x : X) → seen ≡ xs → i < length seen → x ≡ get_or seen i x → slice_get xs i ≡ Some x
element_read {X} seen xs i x same low is = ap (λ (l : List X). slice_get l i) (sym same) ∙ slice_get_read seen (length seen) i x refl low is

-- the same of the state in a place where a row stands
pub state_read : (states : List RowState) (rows : List Row) (seen : List RowState) (rows_seen : List Row) (i : ℕ) (state : RowState) → map (λ (state : RowState). state.point) states ≡ map (λ (row : Row). row.point) rows
    → seen ≡ states → rows_seen ≡ rows → i < length rows_seen → state ≡ get_or seen i state → slice_get states i ≡ Some state
state_read states rows seen rows_seen i state points same same_rows low is =
    let within : i < length seen = omega (arith, points_length states rows points, ap (length {A = RowState}) same, ap (length {A = Row}) same_rows, low) in
    element_read seen states i state same within is

-- ---- a whole table

-- a list is a map if each of its places has it
pub map_by_places : {X Y : Type 0} (f : X → Y) (ys : List Y) (xs : List X) → length ys ≡ length xs → ((k : ℕ) (x : X) (y : Y) → slice_get xs k ≡ Some x → slice_get ys k ≡ Some y → y ≡ f x) → ys ≡ map f xs
map_by_places f [] [] len each = refl
map_by_places f [] (x ∷ xs) len each = absurd (omega arith)
map_by_places f (y ∷ ys) [] len each = absurd (omega arith)
map_by_places f (y ∷ ys) (x ∷ xs) len each =
    let head : y ≡ f x = each 0 x y refl refl in
    let tail : ys ≡ map f xs = map_by_places f ys xs (omega arith) (λ k u v a b. each (suc k) u v a b) in
    cc

-- each place of a map has it
pub map_at : {X Y : Type 0} (f : X → Y) (ys : List Y) (xs : List X) (k : ℕ) (x : X) (y : Y) → ys ≡ map f xs → slice_get xs k ≡ Some x → slice_get ys k ≡ Some y → y ≡ f x
map_at f [] [] k x y e a b = cc
map_at f [] (u ∷ us) k x y e a b = cc
map_at f (v ∷ vs) [] k x y e a b = cc
map_at f (v ∷ vs) (u ∷ us) zero x y e a b =
    let first : v ≡ f u = cc in
    sym (same_Some v y b) ∙ first ∙ ap f (same_Some u x a)
map_at f (v ∷ vs) (u ∷ us) (suc k) x y e a b = let rest : vs ≡ map f us = cc in map_at f vs us k x y rest a b

map_points : (f : Row → RowState) → ((row : Row) → (f row).point ≡ row.point) → (rows : List Row) → map (λ (state : RowState). state.point) (map f rows) ≡ map (λ (row : Row). row.point) rows
map_points f same [] = refl
map_points f same (r ∷ rs) =
    let head : (f r).point ≡ r.point = same r in
    let tail : map (λ (state : RowState). state.point) (map f rs) ≡ map (λ (row : Row). row.point) rs = map_points f same rs in
    cc

module _ (src : Source) (table : Table) where
  -- one more row is right
  pub right_before_more : (i : ℕ) (row : Row) (state : RowState) → slice_get src.rows i ≡ Some row → slice_get table.rows i ≡ Some state → state ≡ right_state src table row → AreRightBefore src table i → AreRightBefore src table (i + 1)
  right_before_more i row state row_there state_there right before k r s low row_at state_at =
      elim (cases_eq k i) [
        | inl e ↦
            let same_state : s ≡ state = same_Some s state (sym state_at ∙ ap (slice_get table.rows) e ∙ state_there) in
            let same_row : row ≡ r = same_Some row r (sym row_there ∙ ap (slice_get src.rows) (sym e) ∙ row_at) in
            same_state ∙ right ∙ ap (right_state src table) same_row
        | inr ne ↦ before k r s (omega arith) row_at state_at
      ]

  -- a table is its own answer where its points are the plan's and each of its rows is right
  pub settled_by_rows : HasPoints src table → ((k : ℕ) (row : Row) (state : RowState) → slice_get src.rows k ≡ Some row → slice_get table.rows k ≡ Some state → state ≡ right_state src table row) → IsSettledTable src table
  settled_by_rows points each =
      ap (λ d. record { dest = d; rows = table.rows }) points.dest
      ∙ ap (λ (rows : List RowState). record { dest = src.dest; rows = rows })
      (map_by_places (right_state src table) table.rows src.rows (points_length table.rows src.rows points.points) each)

  settled_points : IsSettledTable src table → HasPoints src table
  settled_points settled = record {
    dest = ap (λ (t : Table). t.dest) settled;
    points = ap (λ (t : Table). map (λ (state : RowState). state.point) t.rows) settled ∙ map_points (right_state src table) (λ row. refl) src.rows;
  }

  not_wrong : (clause : Clause) (state right : RowState) → state ≡ right → IsWrongIn clause state right → ⊥
  not_wrong Clause.Points state right e w = w
  not_wrong Clause.Route state right e w = w (ap (λ (s : RowState). s.choice.class) e, ap (λ (s : RowState). s.choice.members) e)
  not_wrong Clause.Status state right e w = w.1 (ap (λ (s : RowState). s.choice.status) e)
  not_wrong Clause.Links state right e w = w.1 (ap (λ (s : RowState). s.links) e)
  not_wrong Clause.Messages state right e w = w.2 (ap (λ (s : RowState). s.messages) e)

  -- a table with a complaint isn't settled
  pub complaint_unsettled : (complaint : Complaint) → IsFirstComplaint src table complaint → IsSettledTable src table → ⊥
  complaint_unsettled complaint c settled = elim c [
    | inl w ↦ w.wrong (settled_points settled)
    | inr w ↦ not_wrong complaint.clause w.state (right_state src table w.row) (map_at (right_state src table) table.rows src.rows w.position w.row w.state (ap (λ (t : Table). t.rows) settled) w.row_at w.state_at) w.wrong
  ]

  -- a table with a complaint isn't the definition's
  pub complaint_wrong : IsValidSource src → (complaint : Complaint) → IsFirstComplaint src table complaint → table ≡ scratch src → ⊥
  complaint_wrong valid complaint c e = complaint_unsettled complaint c (subst (IsSettledTable src) (sym e) (scratch_table src valid))
