use Rattle.std.proofs.Common.{◌≡◌, ◌*◌, ◌<◌, ◌≤◌, ◌-◌, ℕ, List, Ok, length, sum, arith, ap}
use Rattle.std.specs.List.{All}
use Rattle.std.proofs.lemmas.List.Sums.{sum_by-le}
use Rattle.std.proofs.lemmas.Grind.{get_or_default_zero}
use Rattle.plan_ranks.proofs.ranks.settle.Goals as goal

-- a greater sum of as many ranks leaves less to go
less_left : (start old new : List ℕ) → length new ≡ length start → All (λ n. n ≤ 255) new → sum old < sum new → 255 * length start - sum new < 255 * length start - sum old
less_left start old new same fits more =
    let most : sum new ≤ length new * 255 = sum_by-le (λ x. x) 255 new fits in
    omega (arith, most, same, more)

pub loop-smaller : goal.loop-smaller
loop-smaller c = less_left c.args.ranks.now c.loop.ranks c.raise.new.ranks (omega arith)
    (λ k d h. let fits = c.type_inv.ranks k in rw (get_or_default_zero c.raise.new.ranks k d h) (omega arith))
    (c.in_ok-raise.ensures.rose (ap Ok c.if-branch.true))
