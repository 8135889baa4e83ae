use Rattle.std.proofs.Common.{map, not, eqb}
use Rattle.std.specs.Prelude.{filter}
use Rattle.link_sets.specs.Neighbours.{neighbours}
use Rattle.excerpts.specs.Around.{neighbours_left}
use Rattle.profile.specs.Local.{message}
use Rattle.transfer_state.proofs.MatchLemmas.{GoTogether}
use Rattle.transfer_state.proofs.complaints.are_messages.Given as goal

-- the messages left are those to the neighbours left, exactly if all are right
abbrev pub invariant-loop-z : goal.invariant-loop-z
invariant-loop-z l = GoTogether
    l.messages (map (λ z. record { kind = message l.choice z; to = z }) (filter (λ z. not (eqb z l.e.plan.dest)) (neighbours l.e.network.sets l.row.point)))
    l.left (map (λ z. record { kind = message l.choice z; to = z }) (filter (λ z. not (eqb z l.e.plan.dest)) (neighbours_left l.z-iterator)))
