-- What a planner is warned of: rows and plans that are missing, points and sets that no plan uses, and what a single failure takes (own, after Q.704 clauses 3.2 and 4).
use Rattle.std.specs.Prelude.{ℕ, ◌==◌, ◌&&◌, not, Bool, false, List, [], ◌∷◌, ◌++◌, is_some, if◌then◌else◌, length}
use Rattle.std.specs.List.{flat_map, list_any}
use Rattle.std.specs.Option.{option_map_or}
use Rattle.net_items.specs.declared.items.LinkSet.{LinkSet}
use Rattle.net_items.specs.declared.items.Plan.{Plan}
use Rattle.net_items.specs.declared.items.Point.{Point}
use Rattle.net_items.specs.Lookups.{mate_of, plan_at}
use Rattle.plan_rows.specs.Uses.{uses_point, uses_set}
use Rattle.net_data.specs.Network.{Network}
use Rattle.net_building.specs.declared.surveyed.Surveyed.TheVariants.{Sets, Points}
use Rattle.link_sets.specs.Neighbours.{other_end_of}
use Rattle.what_if.specs.declared.survey.Effect.{Effect}
use Rattle.what_if.specs.declared.survey.Single.{Single}
use Rattle.what_if.specs.declared.survey.Single.TheVariants as single
use Rattle.what_if.specs.declared.warnings.Warning.{Warning}
use Rattle.what_if.specs.declared.warnings.Warning.TheVariants as warning
use Rattle.what_if.specs.Survey.{survey_of}

-- ---- plans

-- the set joins the point to one that the plan has a row of, or to its destination
abbrev pub is_joined_in : Plan → ℕ → LinkSet → Bool
is_joined_in plan y set = option_map_or (λ z. uses_point z plan) (other_end_of y set) false

-- the plan has no row of the point, though a set joins it so
abbrev pub lacks_row : List LinkSet → Plan → Point → Bool
lacks_row sets plan p = not (uses_point p.code plan) && list_any (is_joined_in plan p.code) sets

-- that a point lacks a row
abbrev pub missing_row : List LinkSet → Plan → Point → List Warning
missing_row sets plan p = if lacks_row sets plan p then warning.MissingRow p.code plan.dest ∷ [] else []

-- that the destination's mate has no plan
abbrev pub missing_plan : Network → Plan → List Warning
missing_plan net plan = option_map_or (λ m. if is_some (plan_at net.plans m) then [] else warning.MissingPlan m plan.dest ∷ []) (mate_of net.points plan.dest) []

-- what is missing in a plan, or beside it
abbrev pub plan_warnings : Network → Plan → List Warning
plan_warnings net plan = flat_map (missing_row net.sets plan) net.points ++ missing_plan net plan

-- ---- points and sets

-- a row leads traffic to the point: it has a plan with a row
abbrev pub is_reached : List Plan → ℕ → Bool
is_reached plans c = option_map_or (λ (plan : Plan). not (length plan.rows == 0)) (plan_at plans c) false

-- no row leads traffic to the point
abbrev pub unreached : List Plan → Point → List Warning
unreached plans p = if is_reached plans p.code then [] else warning.Unreached p.code ∷ []

-- no plan is of the point or has a row of it; so none leads over it, since a via is the destination or has a row
abbrev pub unnamed : List Plan → Point → List Warning
unnamed plans p = if list_any (uses_point p.code) plans then [] else warning.Unnamed p.code ∷ []

-- what no plan does for a point
abbrev pub point_warnings : List Plan → Point → List Warning
point_warnings plans p = unreached plans p ++ unnamed plans p

-- no row leads over the set
abbrev pub unused : Network → LinkSet → List Warning
unused net s = if list_any (uses_set net.points s) net.plans then [] else warning.Unused s.id ∷ []

-- what is missing, and what isn't used: plan by plan, point by point, set by set
abbrev pub shape_warnings : Network → List Warning
shape_warnings net = flat_map (plan_warnings net) net.plans ++ (flat_map (point_warnings net.plans) net.points ++ flat_map (unused net) net.sets)

-- ---- single failures

-- a single failure takes so many pairs; a repair is no failure
abbrev pub warned_single : Single → ℕ → List Warning
warned_single (single.SetFails id) pairs = warning.SetFails id pairs ∷ []
warned_single (single.PointFails code) pairs = warning.PointFails code pairs ∷ []
warned_single (single.SetRestored id) pairs = []

abbrev pub failure : Effect → List Warning
failure effect = warned_single effect.single effect.pairs

-- ---- all

-- the warnings of a network whose sets and transfer points have these effects where one fails
abbrev pub warnings_by : Network → List Effect → List Effect → List Warning
warnings_by net sets points = shape_warnings net ++ (flat_map failure sets ++ flat_map failure points)

-- all that a planner is warned of
abbrev pub warnings_of : Network → List Warning
warnings_of net = warnings_by net (survey_of Sets net).effects (survey_of Points net).effects
