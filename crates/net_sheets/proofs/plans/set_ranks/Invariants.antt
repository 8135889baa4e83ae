use Rattle.std.proofs.Common.{◌≡◌, take, length}
use Rattle.plan_ranks.specs.Ranks.{with_ranks}
use Rattle.net_sheets.proofs.plans.set_ranks.Given as goal

abbrev pub invariant-loop-i : goal.invariant-loop-i
invariant-loop-i l = record {
  many : length l.rows.items ≡ length l.ranks;
  ranked : l.rows.items ≡ with_ranks l.fn.rows.items (take l.i l.ranks);
}
