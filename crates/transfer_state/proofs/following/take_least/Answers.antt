use Rattle.std.proofs.Common.{arith, ap, ℕ, length}
use Rattle.transfer_state.proofs.FollowLemmas.{without_mark}
use Rattle.transfer_state.proofs.following.take_least.Goals as goal

pub returns-clause-some : goal.returns-clause-some
returns-clause-some c =
    rw c.swap_remove.ensures.items (without_mark c.args.marks.now.items c.in_ok-at.at c.swap_remove.result (omega (arith, c.in_ok-at.ensures.some, ap (length {A = ℕ}) c.deref.ensures.value)) c.swap_remove.ensures.value)
