-- lists of one length whose pairs are equal
use Rattle.std.proofs.Common.{rules, tests}
use Rattle.std.proofs.lemmas.Iterator.{YieldsList-from_zip, same_from_all}
use Rattle.std.proofs.lemmas.List.{length-map}
use Rattle.net_data.proofs.SharedLemmas.{YieldsList-from_shared}
use Rattle.net_data.proofs.equals.are_same_plans.Goals as goal

pub returns-then-a-b : goal.returns-then-a-b
returns-then-a-b c = same_from_all c.all.new.self _ _ _ _ c.all.ensures.ran (YieldsList-from_zip (YieldsList-from_shared c.args.a.now cc) (YieldsList-from_shared c.args.b.now cc)) (search (rules, length-map)) (λ x q k. search (rules, tests)) (λ x q k. search (rules, tests))
