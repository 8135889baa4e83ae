use Rattle.transfer_state.specs.Following.{AreMarks}
use Rattle.transfer_state.proofs.FollowLemmas.{ArePutFor}
use Rattle.transfer_state.proofs.following.mark_turned.Given as goal

-- the rows that rest on the ends so far are marked
abbrev pub invariant-loop-ends : goal.invariant-loop-ends
invariant-loop-ends l = record {
  within : AreMarks l.e l.marks.items;
  put : ArePutFor l.e l.marks.items l.turned l.ends-index;
}
