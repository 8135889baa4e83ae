-- the closure gives the key, and the keys rise
use Rattle.std.proofs.Common.{◌∙◌, ap, arith, rules, sym}
use Rattle.std.proofs.lemmas.List.{get_or_read}
use Rattle.std.proofs.lemmas.List.Sorted.{answers_always}
use Rattle.net_items.specs.declared.items.LinkSet.{LinkSet}
use Rattle.net_items.proofs.KeyedLemmas.{found_here, searched}
use Rattle.net_items.proofs.lookups.position_of_set.Goals as goal

pub returns-then-sets-guess-clause-found : goal.returns-then-sets-guess-clause-found
returns-then-sets-guess-clause-found c =
    let sets = c.args.sets.now in
    let guess = c.guess_of_set-guess.result in
    let set = c.index-sets-guess.result in
    found_here (λ (s : LinkSet). s.id) c.args.id sets guess c.requires (omega arith)
    (λ d. ap (λ (s : LinkSet). s.id) (sym (get_or_read sets guess set (omega arith) c.index-sets-guess.is d) ∙ c.index-sets-guess.is) ∙ c.if-sets-guess.true)

pub returns-clause-found : goal.returns-clause-found
returns-clause-found c =
    let facts = c.binary_search_by_key.ensures in
    (searched (λ (s : LinkSet). s.id) c.args.id _ c.requires _ facts.bound (facts.position (λ (s : LinkSet). s.id) (answers_always _ _ _ (λ f a r g called. search rules)))).found

pub returns-clause-absent : goal.returns-clause-absent
returns-clause-absent c =
    let facts = c.binary_search_by_key.ensures in
    (searched (λ (s : LinkSet). s.id) c.args.id _ c.requires _ facts.bound (facts.position (λ (s : LinkSet). s.id) (answers_always _ _ _ (λ f a r g called. search rules)))).absent
