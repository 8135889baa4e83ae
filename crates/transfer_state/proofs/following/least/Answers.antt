use Rattle.transfer_state.proofs.FollowLemmas.{mark_at}
use Rattle.transfer_state.proofs.following.least.Goals as goal

pub rank_at-rank-requires : goal.rank_at-rank-requires
rank_at-rank-requires c = c.requires _ (mark_at c.args.marks.now c.loop-at.at 0 c.loop-at-test.true)
