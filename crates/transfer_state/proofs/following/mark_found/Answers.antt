use Rattle.std.proofs.lemmas.Result.{on_ok_weaker}
use Rattle.transfer_state.proofs.FollowLemmas.{found_mark}
use Rattle.transfer_state.proofs.following.mark_found.Goals as goal

pub returns-clause-marked : goal.returns-clause-marked
returns-clause-marked c =
    on_ok_weaker c.mark_place.result (found_mark c.args.e.now c.validity.ensures c.mark_place.new.marks.items c.args.point c.args.at c.requires.found) c.mark_place.ensures.marked
