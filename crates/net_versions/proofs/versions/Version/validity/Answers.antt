use Rattle.std.proofs.Common.{List, ap, subst, ◌∙◌}
use Rattle.transfer_state.specs.Routing.{ChoicesValue}
use Rattle.net_versions.specs.Versions.{IsSettledVersion, kept_tables}
use Rattle.net_versions.proofs.PlannedLemmas.{tables_kept}
use Rattle.net_versions.proofs.versions.Version.validity.Goals as goal

pub returns : goal.returns
returns c = subst IsSettledVersion c.self.view_is (ap (λ (kept : List ChoicesValue). kept_tables c.self.inside.net c.self.inside.net.plans kept) c.self.invariant ∙ tables_kept c.self.inside.net c.validity.ensures)
