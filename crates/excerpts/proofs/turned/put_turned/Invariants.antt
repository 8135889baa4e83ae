use Rattle.std.proofs.Common.{◌≡◌, ℕ, true}
use Rattle.excerpts.specs.Turned.{has_pair}
use Rattle.excerpts.proofs.TurnedLemmas.{ArePut}
use Rattle.excerpts.proofs.turned.put_turned.Given as goal

-- the sets so far are put in
abbrev pub invariant-loop-set : goal.invariant-loop-set
invariant-loop-set l = record {
  kept : (y z : ℕ) → has_pair l.fn.list.items y z ≡ true → has_pair l.list.items y z ≡ true;
  put : ArePut l.net.sets l.before.sets l.sets l.list.items l.set-index;
}
