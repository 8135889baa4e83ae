use Rattle.std.proofs.Common.{arith, ap, sym, ◌∙◌, get_or}
use Rattle.route_choice.specs.declared.choices.Far.TheVariants.{Allowed}
use Rattle.route_choice.specs.Routes.{best_in, better_of}
use Rattle.route_choice.proofs.OfferLemmas.{offered_one, offered_two, better_of_none}
use Rattle.route_choice.proofs.routes.best_in.Goals as goal

pub returns-in-len1 : goal.returns-in-len1
returns-in-len1 c = sym (ap best_in (offered_one c.args.vias.now c.args.fars.now 0 Allowed (omega arith) (omega arith)) ∙ better_of_none (get_or c.args.fars.now 0 Allowed))

pub returns-in_default : goal.returns-in_default
returns-in_default c =
    c.better_of.ensures
    ∙ sym (ap best_in (offered_two c.args.vias.now c.args.fars.now 0 0 Allowed Allowed (omega arith) (omega arith))
    ∙ ap (better_of (get_or c.args.fars.now 0 Allowed)) (better_of_none (get_or c.args.fars.now 1 Allowed)))
