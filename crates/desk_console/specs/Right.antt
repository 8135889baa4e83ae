-- What stands at a console over a network: the version of its number, as the profile gives it from scratch (own).
use Rattle.std.specs.Prelude.{List}
use Rattle.net_data.specs.declared.events.Event.{Event}
use Rattle.net_data.specs.Network.{Network}
use Rattle.desk_core.specs.Desk.{DeskValue, new_desk}
use Rattle.desk_core.specs.Runs.{IsRightVersion, IsRunOf, first_numbers, numbers_after}

-- some steps led from a new desk over a network to this one and accepted these events, and the published version is the one of its number
pub record IsRightDesk (start : Network) (events : List Event) (desk : DeskValue) : Type 0 where
  pub came : IsRunOf (new_desk start) events desk
  pub right : IsRightVersion (new_desk start) events (numbers_after (first_numbers (new_desk start)) came.replies) desk.published
