-- A table of the transfer points.
use Rattle.std.specs.Prelude.{◌≡◌, ℕ, ◌<◌, Bool, false, List, slice_index_or}
use Rattle.net_items.specs.declared.items.Point.{Point}
use Rattle.net_items.specs.Lookups.{is_stp}

-- a code's place holds whether it is a transfer point
abbrev pub IsTransfers : List Bool → List Point → Type 0
IsTransfers transfers points = (z : ℕ) → z < 16384 → slice_index_or transfers z false ≡ is_stp points z
