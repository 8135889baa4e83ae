use Rattle.std.proofs.Common.{ap, ◌∙◌}
use Rattle.toml.specs.View.{view, table_view, members_view}
use Rattle.net_saving.specs.Writing.{insert_member}
use Rattle.net_saving.proofs.TableLemmas.{inserted_view}
use Rattle.net_saving.proofs.saving.put.Goals as goal

pub returns-in-Ok : goal.returns-in-Ok
returns-in-Ok c =
    ap members_view c.in-Ok.ensures.entries ∙ inserted_view c.in_ok-key.key c.args.value c.args.table.now.entries
    ∙ ap (λ t. insert_member t (view c.args.value) (table_view c.args.table.now)) c.in_ok-key.ensures.ok
