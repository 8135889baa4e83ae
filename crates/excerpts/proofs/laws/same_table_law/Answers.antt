use Rattle.excerpts.proofs.ExcerptLemmas.{table_alone, table_equal}
use Rattle.excerpts.proofs.laws.same_table_law.Goals as goal

pub returns-clause-alone : goal.returns-clause-alone
returns-clause-alone c = table_alone

pub returns-clause-equal : goal.returns-clause-equal
returns-clause-equal c = table_equal
