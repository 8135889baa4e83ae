-- The sets that a plan's table can read.
use Rattle.std.proofs.Common.{◌≡◌, ℕ, Bool, true, false, ◌&&◌, ◌||◌, eqb, is_some, Some, None, All, ◌⊎◌, inl, inr, refl, ap, sym, ◌∙◌, List, [], ◌∷◌, arith}
use Rattle.std.specs.List.{AllByRecursion, list_all, list_any}
use Rattle.std.proofs.lemmas.Bool.{and_parts, eq-eqb, eqb-true, ne_eqb, or_cases}
use Rattle.std.proofs.lemmas.List.Elements.{All-from_recursion, All-weaker}
use Rattle.std.proofs.lemmas.List.Folds.{list_any_none}
use Rattle.net_items.specs.declared.items.Point.{Point}
use Rattle.net_items.specs.declared.items.LinkSet.{LinkSet}
use Rattle.net_items.specs.declared.items.Plan.{Plan}
use Rattle.net_items.specs.declared.lists.Row.{Row}
use Rattle.net_items.specs.Lookups.{joins, row_at, is_stp}
use Rattle.plan_rows.specs.Rows.{has_lower_row, is_lower}
use Rattle.net_data.specs.declared.events.Event.TheVariants as on
use Rattle.net_data.specs.Edits.{refusal_of}
use Rattle.net_data.specs.Network.{Network}
use Rattle.net_data.specs.Valid.{IsRightPlan, IsRightRow}
use Rattle.net_data.specs.Valid.{IsValid as IsValidNet}
use Rattle.net_data.proofs.PreservationLemmas.{accepted_rows}
use Rattle.profile.specs.Valid.{IsVia, IsValidRow}
use Rattle.excerpts.specs.Excerpt.{network_source}
use Rattle.excerpts.proofs.SourceLemmas.{source_valid}
use Rattle.dirty_sets.specs.Index.{LeadsOn}

-- a transfer point with a row
abbrev planned : List Point → Plan → ℕ → Bool
planned points plan z = is_stp points z && is_some (row_at plan.rows z)

-- what a via is
abbrev LeadsTo : List Point → Plan → ℕ → Type 0
LeadsTo points plan via = (via ≡ plan.dest) ⊎ (planned points plan via ≡ true)

-- a set that has none of these at an end joins no row's point with a via
module _ (points : List Point) (plan : Plan) (s : LinkSet) (leads : LeadsOn points plan) (one : planned points plan s.a ≡ false) (other : planned points plan s.b ≡ false)
    (ends : (eqb s.a plan.dest || eqb s.b plan.dest) ≡ false) where
  apart : (z via : ℕ) → LeadsTo points plan via → planned points plan z ≡ false → eqb z plan.dest ≡ false → eqb z via ≡ false
  apart z via lead not_planned not_dest = ne_eqb z via (λ e. no e lead)
    where
      no : z ≡ via → LeadsTo points plan via → ⊥
      no e (inl d) = let is : eqb z plan.dest ≡ true = eq-eqb z plan.dest (e ∙ d) in let clash : true ≡ false = sym is ∙ not_dest in cc
      no e (inr p) = let is : planned points plan z ≡ true = ap (planned points plan) e ∙ p in let clash : true ≡ false = sym is ∙ not_planned in cc

  no_via : (y via : ℕ) → LeadsTo points plan via → joins y via s ≡ false
  no_via y via lead =
      let first : eqb s.a plan.dest ≡ false = grind arith in
      let second : eqb s.b plan.dest ≡ false = grind arith in
      let there : eqb s.b via ≡ false = apart s.b via lead other second in
      let back : eqb s.a via ≡ false = apart s.a via lead one first in
      grind arith

  pub joins_none : list_any (λ (row : Row). list_any (λ vias. list_any (λ via. joins row.point via s) vias) row.classes) plan.rows ≡ false
  joins_none =
      list_any_none (λ (row : Row). list_any (λ vias. list_any (λ via. joins row.point via s) vias) row.classes) plan.rows
      (All-weaker (λ (row : Row). All (All (LeadsTo points plan)) row.classes) (λ (row : Row). list_any (λ vias. list_any (λ via. joins row.point via s) vias) row.classes ≡ false)
      (λ row in_row. list_any_none (λ vias. list_any (λ via. joins row.point via s) vias) row.classes
      (All-weaker (All (LeadsTo points plan)) (λ vias. list_any (λ via. joins row.point via s) vias ≡ false)
      (λ vias in_class. list_any_none (λ via. joins row.point via s) vias
      (All-weaker (LeadsTo points plan) (λ via. joins row.point via s ≡ false) (λ via lead. no_via row.point via lead) vias in_class))
      row.classes in_row))
      plan.rows leads)

-- the vias of a right plan lead on
pub leads_on : (net : Network) → IsValidNet net → (plan : Plan) → IsRightPlan net.points net.sets plan → LeadsOn net.points plan
leads_on net v plan right =
    All-weaker (IsValidRow (network_source net plan)) (λ (row : Row). All (All (LeadsTo net.points plan)) row.classes)
    (λ row ok. All-weaker (All (IsVia (network_source net plan) row)) (All (LeadsTo net.points plan))
    (λ vias all. All-weaker (IsVia (network_source net plan) row) (LeadsTo net.points plan) (λ via is. lead row via is) vias all) row.classes ok.vias)
    plan.rows (source_valid net v plan right).rows
  where
    lead : (row : Row) (via : ℕ) → IsVia (network_source net plan) row via → LeadsTo net.points plan via
    lead row via is = elim is.leads [
      | inl e ↦ inl e
      | inr low ↦ inr (let there : row_at plan.rows via ≡ Some low.below = low.planned in let stp : is_stp net.points via ≡ true = low.transfers in rw (there, stp) refl)
    ]

-- a point with a row of lower rank has a row
row_there : (rows : List Row) (z rank : ℕ) → has_lower_row rows z rank ≡ true → is_some (row_at rows z) ≡ true
row_there [] z rank e = cc
row_there (row ∷ rows) z rank e = go (eqb row.point z) refl (row_there rows z rank)
  where
    go : (b : Bool) → eqb row.point z ≡ b → (has_lower_row rows z rank ≡ true → is_some (row_at rows z) ≡ true) → is_some (row_at (row ∷ rows) z) ≡ true
    go true t rest = rw t refl
    go false t rest = rw t (rest (rw t at e))

-- the vias of a plan that isn't refused lead on, in whatever order its rows stand
pub leads_accepted : (net : Network) (plan : Plan) → refusal_of net (on.SetPlan plan) ≡ None → LeadsOn net.points plan
leads_accepted net plan none = All-from_recursion (λ (row : Row). All (All (LeadsTo net.points plan)) row.classes) plan.rows (rows_lead plan.rows (accepted_rows net plan none))
  where
    lead : (row : Row) (via : ℕ) → is_lower net.points plan.dest plan.rows row via ≡ true → LeadsTo net.points plan via
    lead row via e = elim (or_cases (eqb via plan.dest) _ e) [
      | inl t ↦ inl (eqb-true via plan.dest t)
      | inr t ↦
          let both = and_parts (is_stp net.points via) _ t in
          let stp : is_stp net.points via ≡ true = both.0 in
          let there : is_some (row_at plan.rows via) ≡ true = row_there plan.rows via row.rank both.1 in
          inr (rw (stp, there) refl)
    ]

    vias_lead : (row : Row) (vias : List ℕ) → list_all (is_lower net.points plan.dest plan.rows row) vias ≡ true → AllByRecursion (LeadsTo net.points plan) vias
    vias_lead row [] e = tt
    vias_lead row (via ∷ vias) e = let both = and_parts (is_lower net.points plan.dest plan.rows row via) _ e in (lead row via both.0, vias_lead row vias both.1)

    classes_lead : (row : Row) (classes : List (List ℕ)) → list_all (λ vias. list_all (is_lower net.points plan.dest plan.rows row) vias) classes ≡ true → AllByRecursion (All (LeadsTo net.points plan)) classes
    classes_lead row [] e = tt
    classes_lead row (vias ∷ classes) e =
        let both = and_parts (list_all (is_lower net.points plan.dest plan.rows row) vias) _ e in
        (All-from_recursion (LeadsTo net.points plan) vias (vias_lead row vias both.0), classes_lead row classes both.1)

    rows_lead : (rows : List Row) → AllByRecursion (IsRightRow net.points net.sets plan.dest plan.rows) rows → AllByRecursion (λ (row : Row). All (All (LeadsTo net.points plan)) row.classes) rows
    rows_lead [] all = tt
    rows_lead (row ∷ rows) all = (All-from_recursion (All (LeadsTo net.points plan)) row.classes (classes_lead row row.classes all.0.vias_lower), rows_lead rows all.1)
