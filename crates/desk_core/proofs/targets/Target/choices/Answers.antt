use Rattle.std.proofs.Common.{◌≡◌, IfOk, List, ap, map, subst, ◌∙◌}
use Rattle.transfer_state.specs.Routing.{ChoicesValue, RoutingSlotValue, settled_choices}
use Rattle.net_versions.specs.Versions.{all_choices}
use Rattle.net_versions.proofs.PlannedLemmas.{choices_by}
use Rattle.desk_core.specs.Targets.{TargetValue}
use Rattle.desk_core.specs.declared.targets.Parts.{Parts}
use Rattle.desk_core.proofs.targets.Target.choices.Goals as goal

-- the choices of the places are those of the network
pub returns : goal.returns
returns c =
    subst (λ (rs : List ChoicesValue). IfOk c.choices_of_all.result (λ v. v.items ≡ rs))
    (ap (map (λ (s : RoutingSlotValue). settled_choices s.excerpt)) (c.as_slice.ensures.value ∙ ap (λ (p : Parts). p.slots.items) c.deref.ensures)
    ∙ choices_by (λ (s : RoutingSlotValue). s.excerpt) c.self.inside.parts.value.net c.self.inside.parts.value.slots.items c.self.invariant.filled.all ∙ ap (λ (t : TargetValue). all_choices t.network) c.self.view_is)
    c.choices_of_all.ensures
