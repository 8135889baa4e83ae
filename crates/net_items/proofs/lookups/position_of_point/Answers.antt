-- the closure gives the key, and the keys rise
use Rattle.std.proofs.Common.{rules}
use Rattle.std.proofs.lemmas.List.Sorted.{answers_always}
use Rattle.net_items.specs.declared.items.Point.{Point}
use Rattle.net_items.proofs.KeyedLemmas.{searched}
use Rattle.net_items.proofs.lookups.position_of_point.Goals as goal

pub returns-clause-found : goal.returns-clause-found
returns-clause-found c =
    let facts = c.binary_search_by_key.ensures in
    (searched (λ (p : Point). p.code) c.args.code _ c.requires _ facts.bound (facts.position (λ (p : Point). p.code) (answers_always _ _ _ (λ f a r g called. search rules)))).found

pub returns-clause-absent : goal.returns-clause-absent
returns-clause-absent c =
    let facts = c.binary_search_by_key.ensures in
    (searched (λ (p : Point). p.code) c.args.code _ c.requires _ facts.bound (facts.position (λ (p : Point). p.code) (answers_always _ _ _ (λ f a r g called. search rules)))).absent
