-- What the rows of a plan are looked at with.
use Rattle.std.specs.Prelude.{◌≡◌, ℕ, Bool, true, List, Some, length}
use Rattle.net_items.specs.declared.items.Point.{Point}
use Rattle.net_items.specs.declared.lists.Row.{Row}
use Rattle.net_items.specs.Keyed.{IsRising}
use Rattle.net_items.specs.Lookups.{is_stp, mate_of}
use Rattle.plan_rows.specs.Ranks.{IsRanks}
use Rattle.plan_rows.specs.Transfers.{IsTransfers}

-- the points, and a plan's destination and rows
pub record SettingValue : Type 0 where
  pub points : List Point
  pub dest : ℕ
  pub rows : List Row

-- a point with a mate is a transfer point
abbrev pub HaveTransferMates : List Point → Type 0
HaveTransferMates points = (p m : ℕ) → mate_of points p ≡ Some m → is_stp points p ≡ true

-- the tables of transfer points and of ranks are those of the points and rows
pub record IsSetting (points : List Point) (transfers : List Bool) (rows : List Row) (ranks : List ℕ) : Type 0 where
  pub points_rise : IsRising (λ (p : Point). p.code) points
  pub mates_transfer : HaveTransferMates points
  pub transfers_whole : length transfers ≡ 16384
  pub transferring : IsTransfers transfers points
  pub ranks_whole : length ranks ≡ 16384
  pub ranked : IsRanks ranks rows
