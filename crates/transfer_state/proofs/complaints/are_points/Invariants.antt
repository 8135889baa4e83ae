use Rattle.std.proofs.Common.{◌≡◌, length, map}
use Rattle.net_items.specs.declared.lists.Row.{Row}
use Rattle.profile.specs.declared.tables.RowState.{RowState}
use Rattle.transfer_state.proofs.complaints.are_points.Given as goal

-- the rests agree where the whole lists do
abbrev pub invariant-loop-x : goal.invariant-loop-x
invariant-loop-x l = record {
  to : map (λ (state : RowState). state.point) l.xs ≡ map (λ (row : Row). row.point) l.ys → map (λ (state : RowState). state.point) l.states ≡ map (λ (row : Row). row.point) l.rows;
  from : map (λ (state : RowState). state.point) l.states ≡ map (λ (row : Row). row.point) l.rows → map (λ (state : RowState). state.point) l.xs ≡ map (λ (row : Row). row.point) l.ys;
}

abbrev pub decreases-loop-x : goal.decreases-loop-x
decreases-loop-x l = length l.xs
