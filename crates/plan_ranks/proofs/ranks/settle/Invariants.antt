use Rattle.std.proofs.Common.{◌-◌, ◌*◌, List, ℕ, length, sum}
use Rattle.std.specs.List.{All}
use Rattle.plan_ranks.specs.Ranks.{IsBelow, IsMet}
use Rattle.plan_ranks.proofs.ranks.settle.Given as goal

abbrev pub invariant-loop : goal.invariant-loop
invariant-loop l = record {
  above : IsBelow l.fn.ranks l.ranks;
  below : (others : List ℕ) → All (IsMet others) l.needs → IsBelow l.fn.ranks others → IsBelow l.ranks others;
}

abbrev pub decreases-loop : goal.decreases-loop
decreases-loop l = 255 * length l.initial.ranks - sum l.ranks
