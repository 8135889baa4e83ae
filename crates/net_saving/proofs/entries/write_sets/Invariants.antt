use Rattle.std.proofs.Common.{◌≡◌, take, map}
use Rattle.toml.specs.Data.{string}
use Rattle.toml.specs.View.{view}
use Rattle.tokens.specs.Entries.{set_text}
use Rattle.net_saving.proofs.entries.write_sets.Given as goal

abbrev pub invariant-loop-set : goal.invariant-loop-set
invariant-loop-set l = map view l.values.items ≡ map (λ x. string (set_text x)) (take l.set-index l.sets)
