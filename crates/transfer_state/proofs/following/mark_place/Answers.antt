use Rattle.transfer_state.proofs.FollowLemmas.{mark_last}
use Rattle.transfer_state.proofs.following.mark_place.Goals as goal

pub returns-in_ok-push : goal.returns-in_ok-push
returns-in_ok-push c =
    let last = mark_last c.args.marks.now.items c.push.new.self.items c.args.position c.in_ok-push.ensures.items in
    record { kept = last.0; marked = last.1; only = last.2 }
