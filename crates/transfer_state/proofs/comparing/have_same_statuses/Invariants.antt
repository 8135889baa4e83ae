use Rattle.std.proofs.Common.{◌≡◌, drop}
use Rattle.transfer_state.specs.Kept.{kept_statuses}
use Rattle.transfer_state.proofs.comparing.have_same_statuses.Given as goal

-- the statuses are the same, if those from here on are
abbrev pub invariant-loop-position : goal.invariant-loop-position
invariant-loop-position l = kept_statuses (drop l.position l.choices) ≡ kept_statuses (drop l.position l.others) → kept_statuses l.choices ≡ kept_statuses l.others
