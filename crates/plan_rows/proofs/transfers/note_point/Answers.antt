use Rattle.std.proofs.Common.{ap}
use Rattle.net_items.specs.Lookups.{kind_is_stp}
use Rattle.plan_rows.proofs.TransferLemmas.{IsTransfers-note, IsTransfers-keep}
use Rattle.plan_rows.proofs.transfers.note_point.Goals as goal

pub returns-in-Sep : goal.returns-in-Sep
returns-in-Sep c = λ done absent noted. IsTransfers-keep c.args.transfers.now done c.args.point.now absent (ap kind_is_stp c.in-Sep.is) noted

pub returns-in-Stp : goal.returns-in-Stp
returns-in-Stp c = λ done absent noted. IsTransfers-note c.args.transfers.now done c.args.point.now c.number-at.result c.number-at.ensures.value c.requires c.number-at.ensures.in_range absent (ap kind_is_stp c.in-Stp.is) noted
