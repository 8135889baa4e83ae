use Rattle.std.proofs.Common.{◌≡◌, length, take}
use Rattle.plan_rows.specs.Ranks.{IsRanks}
use Rattle.plan_rows.proofs.ranks.note_ranks.Given as goal

abbrev pub invariant-loop-row : goal.invariant-loop-row
invariant-loop-row l = record { long : length l.ranks ≡ 16384; noted : IsRanks l.ranks (take l.row-index l.rows) }
