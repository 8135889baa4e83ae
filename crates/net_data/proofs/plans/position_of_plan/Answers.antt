-- the closure gives the key, and the keys rise
use Rattle.std.proofs.Common.{rules}
use Rattle.std.proofs.lemmas.List.Sorted.{answers_always}
use Rattle.std.specs.Arc.{arc_value}
use Rattle.net_items.specs.declared.items.Plan.{Plan}
use Rattle.net_items.proofs.KeyedLemmas.{searched-map}
use Rattle.net_data.proofs.plans.position_of_plan.Goals as goal

pub returns-clause-found : goal.returns-clause-found
returns-clause-found c =
    let facts = c.binary_search_by_key.ensures in
    (searched-map arc_value (λ (p : Plan). p.dest) c.args.dest _ c.requires _ facts.bound (facts.position (λ a. (arc_value a).dest) (answers_always _ _ _ (λ f a r g called. search rules)))).found

pub returns-clause-absent : goal.returns-clause-absent
returns-clause-absent c =
    let facts = c.binary_search_by_key.ensures in
    (searched-map arc_value (λ (p : Plan). p.dest) c.args.dest _ c.requires _ facts.bound (facts.position (λ a. (arc_value a).dest) (answers_always _ _ _ (λ f a r g called. search rules)))).absent
