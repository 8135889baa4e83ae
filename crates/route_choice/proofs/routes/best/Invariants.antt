use Rattle.std.proofs.Common.{◌≡◌, drop}
use Rattle.route_choice.specs.Routes.{best, better_of, offered}
use Rattle.route_choice.proofs.routes.best.Given as goal

-- the best so far and the best of the rest make the best of all
abbrev pub invariant-loop-i : goal.invariant-loop-i
invariant-loop-i l = better_of l.best (best (offered (drop l.i l.classes) (drop l.i l.fars))) ≡ best (offered l.classes l.fars)
