use Rattle.std.proofs.Common.{List, ap, ◌∙◌}
use Rattle.transfer_state.specs.Routing.{ChoiceTable, ChoicesValue}
use Rattle.net_versions.specs.Versions.{VersionValue, kept_tables}
use Rattle.net_versions.proofs.PlannedLemmas.{tables_kept}
use Rattle.net_versions.proofs.versions.Version.new.Goals as goal

-- what is kept makes the tables of the network
pub returns : goal.returns
returns c =
    let with_tables : List ChoiceTable → VersionValue = λ tables. record { number = c.args.number; batch = c.args.batch.items; network = c.args.net; tables = tables } in
    ap (λ (kept : List ChoicesValue). with_tables (kept_tables c.args.net c.args.net.plans kept)) c.requires ∙ ap with_tables (tables_kept c.args.net c.validity.ensures)
