use Rattle.std.proofs.Common.{◌≡◌, ◌<◌, ◌≤◌, ℕ, Some, true, false, length, slice_get}
use Rattle.std.specs.Prelude.{slice_index_or}
use Rattle.net_items.specs.declared.lists.Row.{Row}
use Rattle.transfer_state.proofs.sweep.ranks_of.Given as goal

abbrev pub invariant-loop-row : goal.invariant-loop-row
invariant-loop-row l = record {
  long : length l.ranks.used ≡ 256;
  noted : (i : ℕ) (row : Row) → i < l.row-index → slice_get l.rows i ≡ Some row → slice_index_or l.ranks.used row.rank false ≡ true;
  highest : (i : ℕ) (row : Row) → i < l.row-index → slice_get l.rows i ≡ Some row → row.rank ≤ l.ranks.highest;
}
