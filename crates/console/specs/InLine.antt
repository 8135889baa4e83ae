-- A script that a console answers, whose desk is worked on in line (own).
use Rattle.std.specs.Prelude.{◌≡◌}
use Rattle.net_data.specs.Network.{Network}
use Rattle.desk_console.specs.Console.{ConsoleValue, net_of, opening}

-- it starts with a new desk over a network
abbrev pub StartsInLine : Network → ConsoleValue → Type 0
StartsInLine net c = c ≡ opening net

-- the network that is left is the one after all accepted events
abbrev pub LeavesInLine : ConsoleValue → Network → Type 0
LeavesInLine c net = net ≡ net_of c
