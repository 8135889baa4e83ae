-- Which links and sets are available (Q.704 clause 3.2), and which points an available set joins.
use Rattle.std.specs.Prelude.{ℕ, Bool, false, List}
use Rattle.std.specs.List.{list_any}
use Rattle.std.specs.Option.{option_map_or}
use Rattle.net_items.specs.declared.items.LinkSet.{LinkSet}
use Rattle.net_items.specs.Links.{link_available}
use Rattle.net_items.specs.Lookups.{set_between}

-- a set with at least one available link
abbrev pub set_available : LinkSet → Bool
set_available set = list_any link_available set.links

-- two points are joined by an available set
abbrev pub connected : List LinkSet → ℕ → ℕ → Bool
connected sets y z = option_map_or set_available (set_between sets y z) false
