use Rattle.std.proofs.Common.{◌≡◌, take, map}
use Rattle.toml.specs.Data.{string}
use Rattle.toml.specs.View.{view}
use Rattle.tokens.specs.Entries.{plan_text}
use Rattle.net_saving.proofs.entries.write_plans.Given as goal

abbrev pub invariant-loop-place : goal.invariant-loop-place
invariant-loop-place l = map view l.values.items ≡ map (λ x. string (plan_text x)) (take l.place l.plans)
