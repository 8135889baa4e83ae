use Rattle.std.proofs.Common.{◌≡◌, ap, sym, subst, ◌∙◌}
use Rattle.profile.specs.declared.tables.Table.{Table}
use Rattle.profile.specs.Whole.{scratch}
use Rattle.excerpts.specs.Excerpt.{source_of}
use Rattle.transfer_state.specs.Complaints.{kept_table}
use Rattle.transfer_state.specs.Promises.{TellsWalks, KeepsMatesApart}
use Rattle.transfer_state.specs.Routing.{ChoicesValue}
use Rattle.transfer_state.proofs.AuditLemmas.{chosen_scratch}
use Rattle.transfer_state.proofs.PromiseLemmas.{tells_walks, keeps_apart}
use Rattle.transfer_state.proofs.RouteLemmas.{chosen}
use Rattle.transfer_state.proofs.choices.Choices.of.Goals as goal

pub returns-clause-scratch : goal.returns-clause-scratch
returns-clause-scratch c =
    c.in_ok-all.ensures ∙ ap (λ n. record { dest = n; kept = c.in_ok-list.list.items }) c.dest.ensures
    ∙ ap (λ ks. record { dest = c.args.excerpt.now.plan.dest; kept = ks }) (chosen c.args.excerpt.now c.in_ok-list.list.items c.in_ok-list.ensures.each c.in_ok-list.ensures.together)

pub returns-clause-walks : goal.returns-clause-walks
returns-clause-walks c =
    let src = source_of c.args.excerpt.now in
    let is : kept_table src c.in_ok-all.all.kept ≡ scratch src = chosen_scratch c.args.excerpt.now c.validity.ensures _ (ap (λ (k : ChoicesValue). k.kept) c.in_ok-all.ensures ∙ chosen c.args.excerpt.now c.in_ok-list.list.items c.in_ok-list.ensures.each c.in_ok-list.ensures.together) in
    subst (λ (t : Table). TellsWalks src t) (sym is) (tells_walks src c.validity.ensures.valid)

pub returns-clause-mates : goal.returns-clause-mates
returns-clause-mates c =
    let src = source_of c.args.excerpt.now in
    let is : kept_table src c.in_ok-all.all.kept ≡ scratch src = chosen_scratch c.args.excerpt.now c.validity.ensures _ (ap (λ (k : ChoicesValue). k.kept) c.in_ok-all.ensures ∙ chosen c.args.excerpt.now c.in_ok-list.list.items c.in_ok-list.ensures.each c.in_ok-list.ensures.together) in
    subst (λ (t : Table). KeepsMatesApart src t) (sym is) (keeps_apart src c.validity.ensures.valid)
