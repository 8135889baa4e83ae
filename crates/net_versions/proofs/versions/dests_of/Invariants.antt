use Rattle.std.proofs.Common.{◌≡◌, map, take}
use Rattle.transfer_state.specs.Routing.{ChoicesValue}
use Rattle.net_versions.proofs.versions.dests_of.Given as goal

-- the destinations so far
abbrev pub invariant-loop-kept : goal.invariant-loop-kept
invariant-loop-kept l = l.dests.items ≡ map (λ (k : ChoicesValue). k.dest) (take l.kept-index l.choices)
