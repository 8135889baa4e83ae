use Rattle.toml.specs.View.{table_view}
use Rattle.net_text.proofs.SaysLemmas.{says_fault, says_net, says_no_read}
use Rattle.net_text.proofs.reading.load.Goals as goal

pub returns-clause-ok : goal.returns-clause-ok
returns-clause-ok c = says_net c.args.text.now (table_view c.in_ok-table.table) c.read_table.result c.in_ok-table.ensures.ok c.read_table.ensures.ok

pub returns-clause-err : goal.returns-clause-err
returns-clause-err c = says_fault c.args.text.now (table_view c.in_ok-table.table) c.read_table.result c.in_ok-table.ensures.ok c.read_table.ensures.err

pub returns-clause-never_read : goal.returns-clause-never_read
returns-clause-never_read c = says_no_read (table_view c.in_ok-table.table) c.read_table.result c.read_table.ensures.err
