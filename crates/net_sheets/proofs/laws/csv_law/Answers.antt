use Rattle.net_sheets.specs.About.{entries_about}
use Rattle.net_sheets.specs.Tables.{routes_of}
use Rattle.net_sheets.proofs.CsvLemmas.{entries_read, points_read, sets_read, routes_read}
use Rattle.net_sheets.proofs.laws.csv_law.Goals as goal

pub returns : goal.returns
returns c = record { network = λ ranked net. entries_read (entries_about ranked net); points = λ net. points_read net.points; sets = λ net. sets_read net.sets; routes = λ net. routes_read (routes_of net.plans) }
