use Rattle.std.proofs.Common.{subst, sym}
use Rattle.profile.specs.Status.{Source}
use Rattle.profile.specs.Whole.{IsSettledTable}
use Rattle.profile.specs.declared.tables.Table.{Table}
use Rattle.profile.proofs.CertificateLemmas.{scratch_table}
use Rattle.excerpts.specs.Excerpt.{source_of}
use Rattle.transfer_state.specs.Promises.{TellsWalks, KeepsMatesApart}
use Rattle.transfer_state.proofs.PromiseLemmas.{tells_walks, keeps_apart}
use Rattle.transfer_state.proofs.RouteLemmas.{chosen}
use Rattle.transfer_state.proofs.table.table_of.Goals as goal

pub table_by-requires : goal.table_by-requires
table_by-requires c = rw c.deref.ensures.value (chosen c.args.e.now c.in_ok-list.list.items c.in_ok-list.ensures.each c.in_ok-list.ensures.together)

-- what the table from scratch promises
pub returns-clause-walks : goal.returns-clause-walks
returns-clause-walks c =
    let src : Source = source_of c.args.e.now in
    subst (λ (t : Table). TellsWalks src t) (sym c.in_ok-table.ensures) (tells_walks src c.validity.ensures.valid)

pub returns-clause-mates : goal.returns-clause-mates
returns-clause-mates c =
    let src : Source = source_of c.args.e.now in
    subst (λ (t : Table). KeepsMatesApart src t) (sym c.in_ok-table.ensures) (keeps_apart src c.validity.ensures.valid)

pub returns-clause-settled : goal.returns-clause-settled
returns-clause-settled c =
    let src : Source = source_of c.args.e.now in
    subst (λ (t : Table). IsSettledTable src t) (sym c.in_ok-table.ensures) (scratch_table src c.validity.ensures.valid)
