-- the closure gives the key, and the keys rise
use Rattle.std.proofs.Common.{rules}
use Rattle.std.proofs.lemmas.List.Sorted.{answers_always}
use Rattle.dirty_sets.specs.declared.readers.Reader.{Reader}
use Rattle.net_items.proofs.KeyedLemmas.{searched}
use Rattle.dirty_sets.proofs.readers.position_of_reader.Goals as goal

pub returns-clause-found : goal.returns-clause-found
returns-clause-found c =
    let facts = c.binary_search_by_key.ensures in
    (searched (λ (r : Reader). r.dest) c.args.dest _ c.requires _ facts.bound (facts.position (λ (r : Reader). r.dest) (answers_always _ _ _ (λ f a r g called. search rules)))).found

pub returns-clause-absent : goal.returns-clause-absent
returns-clause-absent c =
    let facts = c.binary_search_by_key.ensures in
    (searched (λ (r : Reader). r.dest) c.args.dest _ c.requires _ facts.bound (facts.position (λ (r : Reader). r.dest) (answers_always _ _ _ (λ f a r g called. search rules)))).absent
