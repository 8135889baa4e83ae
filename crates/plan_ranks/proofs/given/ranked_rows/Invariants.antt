use Rattle.std.proofs.Common.{◌≡◌, map, take}
use Rattle.plan_ranks.specs.Given.{row_rank, unranked_row}
use Rattle.plan_ranks.proofs.given.ranked_rows.Given as goal

abbrev pub invariant-loop-i : goal.invariant-loop-i
invariant-loop-i l = record {
  same : map unranked_row l.ranked.items ≡ map unranked_row (take l.i l.rows);
  told : map (row_rank l.dest) l.ranked.items ≡ take l.i l.ranks;
}
