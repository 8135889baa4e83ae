-- A desk that is brought up to date (own).
use Rattle.std.specs.Prelude.{◌≡◌}
use Rattle.std.specs.Option.{option_map_or}
use Rattle.desk_core.specs.Desk.{DeskValue, OpenTarget, accepted, net_now}
use Rattle.desk_core.specs.Steps.{caught_up, published_to}

-- an open target is published
abbrev pub without_target : DeskValue → DeskValue
without_target s = option_map_or (λ (t : OpenTarget). published_to s t.number) s.target s

-- an open target is published, and then what is newer
abbrev pub synced : DeskValue → DeskValue
synced s = caught_up (without_target s)

-- nothing that was accepted is lost, whatever of it is published
pub record HasKept (old new : DeskValue) : Type 0 where
  pub accepted : accepted new ≡ accepted old
  pub net : net_now new ≡ net_now old
  pub lasts : new.lasts ≡ old.lasts
  pub spare : new.spare ≡ old.spare
