-- Plans that are added to a network one after the other.
use Rattle.std.proofs.Common.{◌≡◌, ℕ, ◌<◌, true, false, eqb, Option, Some, None, List, [], ◌∷◌, ◌++◌, length, map, Ok, refl, ap, sym, ◌∙◌, subst, arith, append-nil, append_assoc}
use Rattle.std.specs.List.{All, flat_map, list_any}
use Rattle.std.proofs.lemmas.List.{map-append}
use Rattle.std.proofs.lemmas.List.Elements.{All-nil, All-push}
use Rattle.std.proofs.lemmas.Grind.{flat_map-append}
use Rattle.net_items.specs.declared.items.Plan.{Plan}
use Rattle.net_items.specs.declared.lists.Row.{Row}
use Rattle.net_sets.specs.Sets.{is_distinct}
use Rattle.plan_rows.proofs.SeenLemmas.{is_distinct-push}
use Rattle.net_data.specs.declared.events.Refusal.{Refusal}
use Rattle.net_data.specs.declared.events.Event.TheVariants.{SetPlan}
use Rattle.net_data.specs.Network.{Network}
use Rattle.net_data.specs.Edits.{refusal_of, changed, apply_all, unless_refused}
use Rattle.net_building.specs.Building.{plan_event}
use Rattle.net_building.proofs.StepLemmas.{apply_append}
use Rattle.net_sheets.specs.declared.routes.Route.{Route}
use Rattle.plan_ranks.specs.Ranks.{IsLeast, with_ranks}
use Rattle.net_sheets.specs.Tables.{row_routes, plan_routes, routes_of}
use Rattle.net_sheets.specs.Events.{IsRankedPlan, Leads, AddsPlan, AddsPlans}
use Rattle.net_sheets.proofs.PlanLemmas.{ranked_routes, ranked_many, least_given}

-- the plans added so far, and their destinations
pub record PlansSoFar (old : Network) (bare : List ℕ) (routes : List Route) (dests : List ℕ) (new : Network) : Type 0 where
  pub plans : List Plan
  pub told : routes_of plans ≡ routes
  pub dests_told : dests ≡ bare ++ map (λ (p : Plan). p.dest) plans
  pub apart : is_distinct dests ≡ true
  pub ranked : All (IsRankedPlan old.points) plans
  pub built : apply_all old (map plan_event plans) ≡ Ok new
  pub kept : new.points ≡ old.points

-- none so far
pub none_so_far : (net : Network) (bare : List ℕ) → is_distinct bare ≡ true → PlansSoFar net bare [] bare net
none_so_far net bare apart = record { plans = []; told = refl; dests_told = sym (append-nil bare); apart = apart; ranked = All-nil (IsRankedPlan net.points); built = refl; kept = refl }

changed_once : (o : Option Refusal) (n new : Network) → unless_refused o (Ok n) ≡ Ok new → n ≡ new
changed_once None n new e = cc
changed_once (Some r) n new e = absurd (cc)

-- a plan leaves the points
points_kept : (old new : Network) (p : Plan) → Leads old (plan_event p ∷ []) new → new.points ≡ old.points
points_kept old new p leads = ap (λ (n : Network). n.points) (sym (changed_once (refusal_of old (SetPlan p)) (changed old (SetPlan p)) new leads.all))

-- one more plan
pub plan_more : (old mid new : Network) (bare : List ℕ) (before after : List Route) (dests : List ℕ) (dest : ℕ) (rows : List Row) → PlansSoFar old bare before dests mid → list_any (λ y. eqb y dest) dests ≡ false → 0 < length rows
    → before ++ flat_map (row_routes dest) rows ≡ after → AddsPlan mid dest rows new → PlansSoFar old bare after (dests ++ dest ∷ []) new
plan_more old mid new bare before after dests dest rows so_far fresh some told added =
    let p : Plan = record { dest = dest; rows = with_ranks rows added.ranks } in
    let least : IsLeast old.points dest rows added.ranks = subst (λ ps. IsLeast ps dest rows added.ranks) so_far.kept added.least in
    let many = ranked_many rows added.ranks in
    record {
      plans = so_far.plans ++ p ∷ [];
      told = flat_map-append plan_routes so_far.plans (p ∷ []) ∙ ap (λ rs. routes_of so_far.plans ++ rs) (append-nil (plan_routes p) ∙ ranked_routes dest rows added.ranks) ∙ ap (λ rs. rs ++ flat_map (row_routes dest) rows) so_far.told ∙ told;
      dests_told = ap (λ ds. ds ++ dest ∷ []) so_far.dests_told ∙ append_assoc bare (map (λ (p : Plan). p.dest) so_far.plans) (dest ∷ []) ∙ ap (λ ds. bare ++ ds) (sym (map-append (λ (p : Plan). p.dest) so_far.plans (p ∷ [])));
      apart = is_distinct-push dests dest so_far.apart fresh;
      ranked = All-push (IsRankedPlan old.points) so_far.plans p so_far.ranked (record { some_row = omega arith; least = least_given old.points dest rows added.ranks least });
      built = ap (apply_all old) (map-append plan_event so_far.plans (p ∷ [])) ∙ apply_append old mid (map plan_event so_far.plans) (plan_event p ∷ []) so_far.built ∙ added.built.all;
      kept = points_kept mid new p added.built ∙ so_far.kept;
    }

-- all plans
pub plans_all : (old new : Network) (bare : List ℕ) (routes : List Route) (dests : List ℕ) → PlansSoFar old bare routes dests new → AddsPlans old bare routes new
plans_all old new bare routes dests so_far = record {
  plans = so_far.plans;
  told = so_far.told;
  apart = subst (λ ds. is_distinct ds ≡ true) so_far.dests_told so_far.apart;
  ranked = so_far.ranked;
  built = record { all = so_far.built };
  kept = so_far.kept;
}
