use Rattle.std.proofs.Common.{◌∙◌, ap, arith, rules, sym}
use Rattle.std.proofs.lemmas.Bool.{eqb-true}
use Rattle.std.proofs.lemmas.List.{get_or_read}
use Rattle.std.proofs.lemmas.List.Sorted.{answers_always}
use Rattle.transfer_state.specs.Routing.{ChoicesValue}
use Rattle.net_items.proofs.KeyedLemmas.{found_here, searched}
use Rattle.net_versions.proofs.versions.position_of_choices.Goals as goal

-- what was looked at first is kept for the destination
pub returns-then-eq-clause-found : goal.returns-then-eq-clause-found
returns-then-eq-clause-found c =
    let kept = c.index-choices-first.result in
    found_here (λ (k : ChoicesValue). k.dest) c.args.dest c.args.choices.now c.args.first c.requires (omega arith)
    (λ d. ap (λ (k : ChoicesValue). k.dest) (sym (get_or_read c.args.choices.now c.args.first kept (omega arith) c.index-choices-first.is d))
    ∙ sym c.dest.ensures ∙ eqb-true _ c.args.dest (sym c.eq.ensures ∙ c.if-eq.true))

pub returns-clause-found : goal.returns-clause-found
returns-clause-found c =
    let facts = c.binary_search_by_key.ensures in
    (searched (λ (k : ChoicesValue). k.dest) c.args.dest _ c.requires _ facts.bound (facts.position (λ (k : ChoicesValue). k.dest) (answers_always _ _ _ (λ f a r g called. search rules)))).found

pub returns-clause-absent : goal.returns-clause-absent
returns-clause-absent c =
    let facts = c.binary_search_by_key.ensures in
    (searched (λ (k : ChoicesValue). k.dest) c.args.dest _ c.requires _ facts.bound (facts.position (λ (k : ChoicesValue). k.dest) (answers_always _ _ _ (λ f a r g called. search rules)))).absent
