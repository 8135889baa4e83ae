-- What is wrong with the rows of a plan.
use Rattle.std.specs.Prelude.{ℕ, Bool, not, ◌&&◌, ◌==◌, if◌then◌else◌, Option, Some, None, List, [], ◌∷◌, ◌++◌}
use Rattle.std.specs.List.{list_any}
use Rattle.std.specs.Option.{option_map, option_or}
use Rattle.net_items.specs.declared.items.Point.{Point}
use Rattle.net_items.specs.declared.items.LinkSet.{LinkSet}
use Rattle.net_items.specs.declared.lists.Row.{Row}
use Rattle.net_items.specs.Lookups.{adjacent, vias_of}
use Rattle.net_sets.specs.Sets.{is_distinct, is_nil}
use Rattle.plan_rows.specs.declared.causes.Cause.{Cause}
use Rattle.plan_rows.specs.declared.causes.Cause.TheVariants.{IsDest, Twice, NotJoined, ViaTwice, NotLower, ViaMate, BadMate, NoRoute}
use Rattle.plan_rows.specs.declared.causes.WrongRow.{WrongRow}
use Rattle.plan_rows.specs.Rows.{all_vias, is_lower, is_free, has_mate_row}

-- that one where the test holds
abbrev pub when : {R : Type 0} → Bool → R → Option R
when b r = if b then Some r else None

-- the first that there is
abbrev pub first : {R : Type 0} → List (Option R) → Option R
first [] = None
first (o ∷ os) = option_or o (first os)

-- what is wrong with a row, whose earlier rows are given, in order
abbrev pub cause_of : List Point → List LinkSet → ℕ → List Row → List Row → Row → Option Cause
cause_of points sets dest rows earlier r = first (
    when (r.point == dest) IsDest
    ∷ when (list_any (λ (other : Row). other.point == r.point) earlier) Twice
    ∷ when (not (all_vias (adjacent sets r.point) r)) NotJoined
    ∷ when (not (is_distinct (vias_of r))) ViaTwice
    ∷ when (not (all_vias (is_lower points dest rows r) r)) NotLower
    ∷ when (not (all_vias (is_free points dest r.point) r)) ViaMate
    ∷ when (r.mate && not (has_mate_row points sets dest rows r)) BadMate
    ∷ when (is_nil r.classes && not r.mate) NoRoute
    ∷ [])

-- the first wrong row from those on, and what is wrong with it
abbrev pub wrong_row : List Point → List LinkSet → ℕ → List Row → List Row → List Row → Option WrongRow
wrong_row points sets dest rows earlier [] = None
wrong_row points sets dest rows earlier (r ∷ rs) = option_or (option_map (λ cause. record { point = r.point; cause = cause }) (cause_of points sets dest rows earlier r)) (wrong_row points sets dest rows (earlier ++ r ∷ []) rs)
