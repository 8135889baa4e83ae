use Rattle.toml.specs.View.{table_view, members_view}
use Rattle.std.proofs.Common.{ap}
use Rattle.net_saving.proofs.TableLemmas.{document_made}
use Rattle.net_saving.proofs.saving.document.Goals as goal

pub returns : goal.returns
returns c =
    document_made c.args.net.now (table_view c.new-table.result) (table_view c.put_truth.new.table) (table_view c.put_arrays.new.table) (table_view c.put_number.new.table) (table_view c.put_number-2.new.table)
    c.ni.result c.tfr.result c.ni.ensures c.tfr.ensures (ap members_view c.new-table.ensures.empty) c.in_ok-put_truth.ensures c.in_ok-put_arrays.ensures c.in_ok-put_number.ensures c.in_ok-put_number-2.ensures
