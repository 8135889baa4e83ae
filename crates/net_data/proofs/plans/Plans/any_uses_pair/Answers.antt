use Rattle.std.proofs.Common.{rules, tests}
use Rattle.std.proofs.lemmas.Iterator.Search.{any_from_yields_List}
use Rattle.plan_rows.specs.Uses.{uses_pair}
use Rattle.net_data.proofs.SharedLemmas.{YieldsList-from_shared}
use Rattle.net_data.proofs.plans.Plans.any_uses_pair.Goals as goal

pub returns : goal.returns
returns c = rw (← c.self.view_is) (any_from_yields_List (uses_pair c.args.one c.args.other) _ _ c.any.result c.any.ensures.ran (YieldsList-from_shared c.self.inside.list.items cc) (λ x b q k. search (rules, tests)))
