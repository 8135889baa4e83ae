use Rattle.std.proofs.Common.{map, ap, sym, ◌∙◌, subst}
use Rattle.std.specs.Prelude.{All}
use Rattle.rayon.proofs.ListFacts.{IfOk-then}
use Rattle.excerpts.specs.Excerpt.{table_at}
use Rattle.all_tables.specs.Tables.{those_there, IsSettledIn}
use Rattle.all_tables.proofs.MakingLemmas.{all_there, all_settled}
use Rattle.all_tables.proofs.making.tables_of.Goals as goal

pub returns-clause-each : goal.returns-clause-each
returns-clause-each g c =
    let net = c.args.net.now in
    IfOk-then c.present.result _ _ c.present.ensures (λ v is.
    is ∙ ap those_there (c.in_ok-found.ensures ∙ ap (map (table_at net)) (c.deref.ensures.value ∙ c.in_ok-dests.ensures)) ∙ all_there net c.validity.ensures.plans_rise)

pub returns-clause-settled : goal.returns-clause-settled
returns-clause-settled g c =
    let net = c.args.net.now in
    IfOk-then c.present.result _ _ (returns-clause-each g c) (λ v is. subst (All (IsSettledIn net)) (sym is) (all_settled net c.validity.ensures.plans_rise))
