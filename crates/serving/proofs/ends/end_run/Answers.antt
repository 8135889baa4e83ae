use Rattle.std.proofs.Common.{◌∙◌, ap}
use Rattle.desk_core.specs.Desk.{net_now}
use Rattle.versions.specs.Hubs.{HistoryValue}
use Rattle.serving.proofs.ListLemmas.{served}
use Rattle.serving.proofs.ends.end_run.Goals as goal

pub returns : goal.returns
returns g c = λ state net channels sittings opening seated ran count some.
    served g.R.Read.remaining g.W.Write.contents g.L.Telling.tells net g.N.Naming.table state c.args.history.state g.N.Naming.seats c.args.history.log channels sittings c.args.sat.items c.end_all-ends.result.items
    opening seated ran c.end_all-ends.ensures.ends count some c.net_after.result
    (λ after is. c.net_after.ensures after is ∙ ap (λ (h : HistoryValue). net_now h.state.desk) c.end_all-ends.ensures.same)
