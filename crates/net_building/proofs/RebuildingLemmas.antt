-- The events of a valid network make it out of the empty one.
use Rattle.std.proofs.Common.{map, ◌≡◌, ℕ, false, Option, Some, None, Ok, List, [], ◌∷◌, ◌++◌, refl, ap, sym, ◌∙◌, append-nil}
use Rattle.std.specs.List.{flat_map}
use Rattle.std.proofs.lemmas.List.{length-map}
use Rattle.net_items.specs.declared.items.Point.{Point}
use Rattle.net_data.specs.declared.events.Event.{Event}
use Rattle.net_data.specs.Network.{Network}
use Rattle.net_data.specs.Valid.{IsValid}
use Rattle.net_data.specs.Edits.{apply_all}
use Rattle.net_building.specs.Building.{empty_of, events_of, pair_events, set_events, plan_event}
use Rattle.net_building.proofs.EndLemmas.{IsRising-mapped}
use Rattle.net_building.proofs.StepLemmas.{made}
use Rattle.net_building.proofs.PointLemmas.{bare, points_made}
use Rattle.net_building.proofs.MateLemmas.{told_mate, paired}
use Rattle.net_building.proofs.PairLemmas.{all_paired}
use Rattle.net_building.proofs.SetLemmas.{sets_made}
use Rattle.net_building.proofs.PlanLemmas.{plans_made}

none_told : (c : ℕ) (o : Option ℕ) → told_mate (λ k. false) c o ≡ None
none_told c None = refl
none_told c (Some m) = refl

-- points of which no mate is told are bare
all_bare : (points : List Point) → map bare points ≡ paired (λ c. false) points
all_bare [] = refl
all_bare (p ∷ ps) = rw (none_told p.code p.mate) (ap (λ qs. bare p ∷ qs) (all_bare ps))

-- the events of a valid network are accepted, and make it
pub network_made : (net : Network) → IsValid net → apply_all (empty_of net) (events_of net) ≡ Ok net
network_made net v =
    let planned : List Event = map plan_event net.plans in
    let linked : List Event = flat_map set_events net.sets ++ planned in
    let mated : List Event = flat_map pair_events net.points ++ linked in
    points_made net.ni net.tfr mated net.points [] (IsRising-mapped bare (λ (p : Point). p.code) (λ (p : Point). p.code) (λ p. refl) net.points v.points_rise) (rw length-map v.few_points)
    ∙ ap (λ points. apply_all (made net.ni net.tfr points [] []) mated) (all_bare net.points)
    ∙ all_paired net.ni net.tfr linked net.points v.points_rise v.mates
    ∙ sets_made net.ni net.tfr net.points planned net.sets [] v.sets_rise v.one_per_pair v.sets_right
    ∙ ap (λ es. apply_all (made net.ni net.tfr net.points net.sets []) es) (sym (append-nil planned))
    ∙ plans_made net.ni net.tfr net.points net.sets [] net.plans [] v.plans_rise v.plans_right
