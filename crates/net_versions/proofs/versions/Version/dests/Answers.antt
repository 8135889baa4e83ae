use Rattle.std.proofs.Common.{◌≡◌, ℕ, List, IfOk, ap, map, sym, subst, ◌∙◌}
use Rattle.std.specs.Arc.{arc_value}
use Rattle.transfer_state.specs.Routing.{ChoiceTable, ChoicesValue}
use Rattle.net_versions.specs.Versions.{VersionValue, kept_tables}
use Rattle.net_versions.proofs.PlannedLemmas.{dests_kept, tables_kept}
use Rattle.net_versions.proofs.versions.Version.dests.Goals as goal

-- the destinations for which something is kept are those of the tables
pub returns : goal.returns
returns c =
    let net = c.self.inside.net in
    let tables : kept_tables net net.plans (arc_value c.self.inside.choices).items ≡ _ = ap (kept_tables net net.plans) c.self.invariant ∙ tables_kept net c.validity.ensures in
    subst (λ (codes : List ℕ). IfOk c.dests_of.result (λ dests. dests.items ≡ codes))
    (ap (map (λ (k : ChoicesValue). k.dest)) (c.as_slice.ensures.value ∙ ap (λ v. v.items) c.deref.ensures ∙ c.self.invariant) ∙ dests_kept net ∙ ap (map (λ (t : ChoiceTable). t.dest)) (sym tables) ∙ ap (λ (v : VersionValue). map (λ (t : ChoiceTable). t.dest) v.tables) c.self.view_is)
    c.dests_of.ensures
