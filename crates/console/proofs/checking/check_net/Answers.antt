use Rattle.std.proofs.Common.{List, ap, ◌∙◌, sym, subst, length}
use Rattle.std.specs.Prelude.{All}
use Rattle.std.proofs.lemmas.List.{length-map}
use Rattle.net_items.specs.declared.items.Plan.{Plan}
use Rattle.profile.specs.declared.tables.Table.{Table}
use Rattle.profile.specs.Whole.{scratch}
use Rattle.excerpts.specs.Excerpt.{network_source}
use Rattle.all_tables.specs.Tables.{IsSettledIn}
use Rattle.console.proofs.CheckingLemmas.{found_none, then_ok}
use Rattle.console.proofs.checking.check_net.Goals as goal

pub returns-clause-count : goal.returns-clause-count
returns-clause-count g c =
    let net = c.args.net.now in
    let count = ap (length {A = Table}) (c.deref.ensures.value ∙ c.in_ok-tables.ensures.each) ∙ length-map net.plans (λ (plan : Plan). scratch (network_source net plan)) in
    then_ok _ _ c.check_given.result (λ end verdict. verdict.all ∙ count) c.check_given.ensures

pub returns-clause-right : goal.returns-clause-right
returns-clause-right g c =
    let net = c.args.net.now in
    let given : List Table = c.deref.result.now in
    let all : All (IsSettledIn net) given = subst (All (IsSettledIn net)) (sym c.deref.ensures.value) c.in_ok-tables.ensures.settled in
    then_ok _ _ c.check_given.result (λ end verdict. found_none net given all end.wrong verdict.found) c.check_given.ensures
