use Rattle.explanations.proofs.NameLemmas.{reason_begins, load_stands, fault_stands}
use Rattle.explanations.proofs.laws.names_law.Goals as goal

pub returns-clause-line : goal.returns-clause-line
returns-clause-line c = reason_begins

pub returns-clause-load : goal.returns-clause-load
returns-clause-load c = load_stands

pub returns-clause-run : goal.returns-clause-run
returns-clause-run c = fault_stands
