use Rattle.std.proofs.Common.{◌∙◌}
use Rattle.what_if.proofs.GatheringLemmas.{choice_is}
use Rattle.what_if.proofs.moving.choice_of.Goals as goal

pub returns-in-Some : goal.returns-in-Some
returns-in-Some c = rw c.in-Some.is (c.choice.ensures ∙ choice_is c.in-Some.routing.now.excerpt c.args.point)
