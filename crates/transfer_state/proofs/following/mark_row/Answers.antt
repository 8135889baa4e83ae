use Rattle.transfer_state.proofs.FollowLemmas.{gap_mark}
use Rattle.transfer_state.proofs.following.mark_row.Goals as goal

pub returns-in-Err-clause-marked : goal.returns-in-Err-clause-marked
returns-in-Err-clause-marked c = gap_mark c.args.e.now c.validity.ensures c.args.marks.now.items c.args.point c.in-Err.field-0 c.in-Err.ensures.absent
