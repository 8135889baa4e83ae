-- What stands at a console (own).
use Rattle.std.specs.Prelude.{ℕ, List, Option, None, replicate, slice_index_or}
use Rattle.net_data.specs.Network.{Network}
use Rattle.work_units.specs.Work.{Work}
use Rattle.desk_core.specs.Desk.{DeskValue, net_now, new_desk}
use Rattle.desk_console.specs.Watch.{WatchValue, unwatched}

-- a desk, 32 slots for results, and what is kept for `changes`
pub record ConsoleValue : Type 0 where
  pub desk : DeskValue
  pub slots : List (Option Work)
  pub watch : WatchValue

-- a new desk over a network, and empty slots
abbrev pub opening : Network → ConsoleValue
opening net = record { desk = new_desk net; slots = replicate 32 None; watch = unwatched }

-- the network after all accepted events
abbrev pub net_of : ConsoleValue → Network
net_of c = net_now c.desk

-- the result in a slot
abbrev pub slot_of : ConsoleValue → ℕ → Option Work
slot_of c k = slice_index_or c.slots k None
