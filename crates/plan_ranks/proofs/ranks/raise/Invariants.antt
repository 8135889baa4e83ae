use Rattle.std.proofs.Common.{◌≡◌, ◌<◌, List, ℕ, true, false, take, sum}
use Rattle.std.specs.List.{All}
use Rattle.plan_ranks.specs.Ranks.{IsBelow, IsMet}
use Rattle.plan_ranks.proofs.ranks.raise.Given as goal

abbrev pub invariant-loop-need : goal.invariant-loop-need
invariant-loop-need l = record {
  above : IsBelow l.fn.ranks l.ranks;
  below : (others : List ℕ) → All (IsMet others) l.needs → IsBelow l.fn.ranks others → IsBelow l.ranks others;
  rose : l.rose ≡ true → sum l.fn.ranks < sum l.ranks;
  same : l.rose ≡ false → l.ranks ≡ l.fn.ranks;
  met : l.rose ≡ false → All (IsMet l.ranks) (take l.need-index l.needs);
}
