-- Walks to the destination over available sets, along vias and at most one mate in a row (own).
use Rattle.std.specs.Prelude.{◌≡◌, ℕ, Bool, true, false, Some}
use Rattle.net_items.specs.Lookups.{is_via}
use Rattle.net_items.specs.declared.lists.Row.{Row}
use Rattle.link_sets.specs.Availability.{connected}
use Rattle.profile.specs.Status.{Source, source_row}

-- a walk from a point to the destination; `may` tells whether its first hop may go to the mate
pub data Walk (src : Source) : Bool → ℕ → Type 0 where
  arrive : {may : Bool} {y : ℕ} → y ≡ src.dest → Walk src may y
  by_via : {may : Bool} {y z : ℕ} (row : Row) → source_row src y ≡ Some row → is_via row z ≡ true → connected src.sets row.point z ≡ true → Walk src true z → Walk src may y
  by_mate : {y : ℕ} (row mate : Row) → source_row src y ≡ Some row → row.mate ≡ true → src.mate_of row.point ≡ Some mate.point → source_row src mate.point ≡ Some mate
      → connected src.sets row.point mate.point ≡ true → Walk src false mate.point → Walk src true y
