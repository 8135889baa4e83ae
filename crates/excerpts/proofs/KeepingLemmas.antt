-- Events that leave points, plans and the transfer-restricted option.
use Rattle.std.proofs.Common.{◌≡◌, Bool, true, false, ◌&&◌, List, [], ◌∷◌, refl, ◌∙◌}
use Rattle.std.specs.List.{list_all}
use Rattle.net_data.specs.declared.events.Event.{Event}
use Rattle.net_data.specs.declared.events.Event.TheVariants as on
use Rattle.net_data.specs.Network.{Network}
use Rattle.net_data.specs.Edits.{changed, replay}
use Rattle.excerpts.specs.Turned.{keeps_plans}

-- a network that differs in sets alone
pub record DiffersInSets (before after : Network) : Type 0 where
  pub points : after.points ≡ before.points
  pub plans : after.plans ≡ before.plans
  pub tfr : after.tfr ≡ before.tfr

kept_by : (net : Network) (event : Event) → keeps_plans event ≡ true → DiffersInSets net (changed net event)
kept_by net (on.Link id slc change) keeps = record { points = refl; plans = refl; tfr = refl }
kept_by net (on.AddLink id slc) keeps = record { points = refl; plans = refl; tfr = refl }
kept_by net (on.RemoveLink id slc) keeps = record { points = refl; plans = refl; tfr = refl }
kept_by net (on.AddSet id a b slcs) keeps = record { points = refl; plans = refl; tfr = refl }
kept_by net (on.RemoveSet id) keeps = record { points = refl; plans = refl; tfr = refl }
kept_by net (on.AddPoint code kind) keeps = cc
kept_by net (on.RemovePoint code) keeps = cc
kept_by net (on.Pair p q) keeps = cc
kept_by net (on.Unpair p) keeps = cc
kept_by net (on.SetPlan plan) keeps = cc
kept_by net (on.DropPlan dest) keeps = cc
kept_by net (on.SetTfr on) keeps = cc

both_true : (a b : Bool) → (a && b) ≡ true → (a ≡ true) × (b ≡ true)
both_true true true e = (refl, refl)
both_true true false e = cc
both_true false b e = cc

-- all of them together
pub kept_by_all : (net : Network) (events : List Event) → list_all keeps_plans events ≡ true → DiffersInSets net (replay net events)
kept_by_all net [] keep = record { points = refl; plans = refl; tfr = refl }
kept_by_all net (e ∷ es) keep =
    let both = both_true (keeps_plans e) (list_all keeps_plans es) keep in
    let first = kept_by net e both.0 in
    let rest = kept_by_all (changed net e) es both.1 in
    record { points = rest.points ∙ first.points; plans = rest.plans ∙ first.plans; tfr = rest.tfr ∙ first.tfr }
