-- The plans of a network are set one after the other.
use Rattle.std.proofs.Common.{map, ◌≡◌, ℕ, ◌<◌, Bool, true, false, not, ◌&&◌, eqb, None, List, [], ◌∷◌, ◌++◌, refl, ap, sym, ◌∙◌, arith, append_assoc, append-nil}
use Rattle.std.specs.List.{AllByRecursion, list_all, list_any}
use Rattle.std.specs.Option.{option_map}
use Rattle.std.proofs.lemmas.Bool.{and_from, not_from_true, ne_eqb}
use Rattle.net_items.specs.declared.items.Point.{Point}
use Rattle.net_items.specs.declared.items.LinkSet.{LinkSet}
use Rattle.net_items.specs.declared.items.Plan.{Plan}
use Rattle.net_items.specs.declared.lists.Row.{Row}
use Rattle.net_items.specs.Keyed.{IsRising, put}
use Rattle.net_items.specs.Lookups.{has_point, adjacent, vias_of}
use Rattle.net_sets.specs.Sets.{is_distinct, is_nil}
use Rattle.plan_rows.specs.Rows.{all_vias, is_lower, is_free, has_mate_row, is_small_row}
use Rattle.plan_rows.specs.Causes.{cause_of, wrong_row}
use Rattle.net_data.specs.declared.events.Event.{Event}
use Rattle.net_data.specs.Edits.{refusal_of, apply_all}
use Rattle.net_data.specs.Valid.{IsRightRow, IsRightPlan}
use Rattle.net_data.proofs.OrderLemmas.{in_order_rising}
use Rattle.net_building.specs.Building.{plan_event}
use Rattle.net_building.proofs.EndLemmas.{below_next, put_end}
use Rattle.net_building.proofs.StepLemmas.{step, passed, skipped, made}

-- a row of a greater code than the earlier ones has no twin
no_twin : (k : ℕ) (earlier : List Row) → AllByRecursion (λ (r : Row). r.point < k) earlier → list_any (λ (other : Row). eqb other.point k) earlier ≡ false
no_twin k [] below = refl
no_twin k (r ∷ rs) below = let low : r.point < k = below.0 in rw (ne_eqb r.point k (λ e. omega arith)) (no_twin k rs below.1)

module _ (points : List Point) (sets : List LinkSet) (dest : ℕ) (rows : List Row) where
  -- nothing is wrong with a right row after earlier ones of lower codes
  no_cause : (earlier : List Row) (r : Row) → AllByRecursion (λ (s : Row). s.point < r.point) earlier → IsRightRow points sets dest rows r → cause_of points sets dest rows earlier r ≡ None
  no_cause earlier r below right =
      passed (eqb r.point dest) _ _ right.not_dest
      (passed (list_any (λ (other : Row). eqb other.point r.point) earlier) _ _ (no_twin r.point earlier below)
      (passed (not (all_vias (adjacent sets r.point) r)) _ _ (not_from_true _ right.vias_joined)
      (passed (not (is_distinct (vias_of r))) _ _ (not_from_true _ right.vias_once)
      (passed (not (all_vias (is_lower points dest rows r) r)) _ _ (not_from_true _ right.vias_lower)
      (passed (not (all_vias (is_free points dest r.point) r)) _ _ (not_from_true _ right.vias_not_mate)
      (passed (r.mate && not (has_mate_row points sets dest rows r)) _ _ right.mate_right
      (passed (is_nil r.classes && not r.mate) _ _ right.has_route refl)))))))

  -- no row of right ones that rise is wrong
  no_wrong_row : (rest earlier : List Row) → IsRising (λ (r : Row). r.point) (earlier ++ rest) → AllByRecursion (IsRightRow points sets dest rows) rest → wrong_row points sets dest rows earlier rest ≡ None
  no_wrong_row [] earlier up right = refl
  no_wrong_row (r ∷ rs) earlier up right =
      skipped _ _ (ap (option_map _) (no_cause earlier r (below_next (λ (r : Row). r.point) earlier r rs up) right.0))
      (no_wrong_row rs (earlier ++ r ∷ []) (rw (append_assoc earlier (r ∷ []) rs) up) right.1)

  -- the points of right rows are there
  rows_there : (rest : List Row) → AllByRecursion (IsRightRow points sets dest rows) rest → list_all (λ (r : Row). has_point points r.point) rest ≡ true
  rows_there [] right = refl
  rows_there (r ∷ rs) right = let first = right.0 in and_from (has_point points r.point) _ first.is_there (rows_there rs right.1)

  -- right rows are small
  rows_small : (rest : List Row) → AllByRecursion (IsRightRow points sets dest rows) rest → list_all is_small_row rest ≡ true
  rows_small [] right = refl
  rows_small (r ∷ rs) right = let first = right.0 in and_from (is_small_row r) _ first.small (rows_small rs right.1)

module _ (ni : ℕ) (tfr : Bool) (points : List Point) (sets : List LinkSet) (es : List Event) where
  -- a right plan is accepted
  accepted : (done : List Plan) (p : Plan) → IsRightPlan points sets p → refusal_of (made ni tfr points sets done) (plan_event p) ≡ None
  accepted done p right =
      passed (not (has_point points p.dest && list_all (λ (r : Row). has_point points r.point) p.rows)) _ _
      (not_from_true _ (and_from _ _ right.is_there (rows_there points sets p.dest p.rows p.rows right.rows_right)))
      (skipped _ _ (ap (option_map _) (no_wrong_row points sets p.dest p.rows p.rows [] right.rows_rise right.rows_right))
      (passed (not (list_all is_small_row p.rows)) _ _ (not_from_true _ (rows_small points sets p.dest p.rows p.rows right.rows_right)) refl))

  -- right plans that rise after others are added to them
  pub plans_made : (rest done : List Plan) → IsRising (λ (p : Plan). p.dest) (done ++ rest) → AllByRecursion (IsRightPlan points sets) rest
      → apply_all (made ni tfr points sets done) (map plan_event rest ++ es) ≡ apply_all (made ni tfr points sets (done ++ rest)) es
  plans_made [] done up right = ap (λ plans. apply_all (made ni tfr points sets plans) es) (sym (append-nil done))
  plans_made (p ∷ ps) done up right =
      let first = right.0 in
      let again : (done ++ p ∷ []) ++ ps ≡ done ++ p ∷ ps = append_assoc done (p ∷ []) ps in
      step (made ni tfr points sets done) (made ni tfr points sets (done ++ p ∷ [])) (plan_event p) (map plan_event ps ++ es) (accepted done p first)
      (ap (λ rows. made ni tfr points sets (put (λ (p : Plan). p.dest) (record p { rows = rows }) done)) (in_order_rising p.rows first.rows_rise)
      ∙ ap (λ plans. made ni tfr points sets plans) (put_end (λ (p : Plan). p.dest) p done (below_next (λ (p : Plan). p.dest) done p ps up)))
      ∙ plans_made ps (done ++ p ∷ []) (rw again up) right.1
      ∙ ap (λ plans. apply_all (made ni tfr points sets plans) es) again
