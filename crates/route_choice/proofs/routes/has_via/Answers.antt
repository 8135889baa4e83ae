use Rattle.std.proofs.Common.{arith, ap, sym, ◌∙◌, get_or}
use Rattle.route_choice.specs.declared.choices.Far.TheVariants.{Allowed}
use Rattle.route_choice.specs.Routes.{has_via, same_far}
use Rattle.route_choice.proofs.OfferLemmas.{offered_one, offered_two, or_false}
use Rattle.route_choice.proofs.routes.has_via.Goals as goal

pub returns-in-len1 : goal.returns-in-len1
returns-in-len1 c =
    c.is_same_as.ensures
    ∙ sym (ap (has_via c.args.best) (offered_one c.args.vias.now c.args.fars.now 0 Allowed (omega arith) (omega arith))
    ∙ or_false (same_far (get_or c.args.fars.now 0 Allowed) c.args.best))

pub returns-then-is_same_as : goal.returns-then-is_same_as
returns-then-is_same_as c = rw (offered_two c.args.vias.now c.args.fars.now 0 0 Allowed Allowed (omega arith) (omega arith)) (grind arith)

pub returns-else-is_same_as : goal.returns-else-is_same_as
returns-else-is_same_as c = rw (offered_two c.args.vias.now c.args.fars.now 0 0 Allowed Allowed (omega arith) (omega arith)) (grind arith)
