-- A network as plain lists.
use Rattle.std.specs.Prelude.{ℕ, Bool, List}
use Rattle.net_items.specs.declared.items.Point.{Point}
use Rattle.net_items.specs.declared.items.LinkSet.{LinkSet}
use Rattle.net_items.specs.declared.items.Plan.{Plan}

-- a network indicator, the option of transfer-restricted messages, and the points, sets and plans
pub record Network : Type 0 where
  pub ni : ℕ
  pub tfr : Bool
  pub points : List Point
  pub sets : List LinkSet
  pub plans : List Plan
