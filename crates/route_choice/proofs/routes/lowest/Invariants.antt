use Rattle.std.proofs.Common.{◌≡◌, ◌+◌, drop}
use Rattle.route_choice.specs.Routes.{lowest, offered}
use Rattle.route_choice.proofs.routes.lowest.Given as goal

-- the lowest of the rest is the lowest of all
abbrev pub invariant-loop-i : goal.invariant-loop-i
invariant-loop-i l = lowest l.tfr l.best (l.i + 1) (offered (drop l.i l.classes) (drop l.i l.fars)) ≡ lowest l.tfr l.best 1 (offered l.classes l.fars)
