-- What is true of the plan of one destination in a valid network (own).
use Rattle.std.specs.Prelude.{◌≡◌, ◌≢◌, ◌<◌, ◌≤◌, ℕ, IsTrue, Some, All, length, IsSome, ◌⊎◌}
use Rattle.std.specs.List.{AllPairs}
use Rattle.net_items.specs.declared.lists.Row.{Row}
use Rattle.net_items.specs.declared.items.LinkSet.{LinkSet}
use Rattle.net_items.specs.declared.links.Link.{Link}
use Rattle.net_items.specs.Keyed.{IsRising}
use Rattle.net_items.specs.Lookups.{set_between}
use Rattle.profile.specs.Status.{Source, source_row}

-- the via is a transfer point with a row of lower rank
pub record IsLower (src : Source) (row : Row) (via : ℕ) : Type 0 where
  pub transfers : IsTrue (src.is_stp via)
  pub below : Row
  pub planned : source_row src via ≡ Some below
  pub lower : below.rank < row.rank

-- what a row with the flag needs of its mate
pub record HasMate (src : Source) (row : Row) : Type 0 where
  pub transfers : IsTrue (src.is_stp row.point)
  pub mate : Row
  pub paired : src.mate_of row.point ≡ Some mate.point
  pub planned : source_row src mate.point ≡ Some mate
  pub same_rank : mate.rank ≡ row.rank
  pub joined : IsSome (set_between src.sets row.point mate.point)

-- what a via is: joined to the row's point, the destination or of lower rank, and the mate only if that is the destination
pub record IsVia (src : Source) (row : Row) (via : ℕ) : Type 0 where
  pub joined : IsSome (set_between src.sets row.point via)
  pub leads : (via ≡ src.dest) ⊎ IsLower src row via
  pub not_mate : src.mate_of row.point ≡ Some via → via ≡ src.dest

-- at most four classes, of at most two vias
pub record IsSmall (row : Row) : Type 0 where
  pub few : length row.classes ≤ 4
  pub small : All (λ vias. length vias ≤ 2) row.classes

-- a set of at most sixteen links
pub record HasFewLinks (set : LinkSet) : Type 0 where
  pub few : length set.links ≤ 16

-- a set whose links rise in signalling link code, each below sixteen
pub record HasLinksInOrder (set : LinkSet) : Type 0 where
  pub rising : IsRising (λ (link : Link). link.slc) set.links
  pub small : All (λ (link : Link). link.slc < 16) set.links

-- what a row is
pub record IsValidRow (src : Source) (row : Row) : Type 0 where
  pub apart : row.point ≢ src.dest
  pub coded : row.point < 16384
  pub ranked : 1 ≤ row.rank
  pub topped : row.rank ≤ 255
  pub vias : All (All (IsVia src row)) row.classes
  pub flagged : IsTrue row.mate → HasMate src row
  pub few : length row.classes ≤ 4
  pub small : All (λ vias. length vias ≤ 2) row.classes
  pub led : (0 < length row.classes) ⊎ IsTrue row.mate

-- what a source is: its rows are valid and rise in code, and mates come in pairs of transfer points
pub record IsValidSource (src : Source) : Type 0 where
  pub rows : All (IsValidRow src) src.rows
  pub once : AllPairs (λ (above below : Row). above.point < below.point) src.rows
  -- a source may know the mates of flagged rows alone
  pub mates : (p q r : ℕ) → src.mate_of p ≡ Some q → src.mate_of q ≡ Some r → r ≡ p
  pub mates_transfer : (p q : ℕ) → src.mate_of p ≡ Some q → IsTrue (src.is_stp q)
