use Rattle.std.proofs.Common.{◌≡◌, map, not, eqb}
use Rattle.std.specs.Prelude.{filter}
use Rattle.profile.specs.Local.{message}
use Rattle.transfer_state.proofs.states.messages_of.Given as goal

-- a message to each neighbour so far but the destination
abbrev pub invariant-loop-z : goal.invariant-loop-z
invariant-loop-z l = l.list.items ≡ map (λ z. record { kind = message l.choice z; to = z }) (filter (λ z. not (eqb z l.e.plan.dest)) l.yielded)
