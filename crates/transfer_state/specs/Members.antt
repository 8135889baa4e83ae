-- The sets to the members of a choice.
use Rattle.std.specs.Prelude.{ℕ, List, Option}
use Rattle.std.specs.Option.{option_map, option_and_then}
use Rattle.net_items.specs.declared.items.LinkSet.{LinkSet}
use Rattle.net_items.specs.Lookups.{set_between}
use Rattle.sls_share.specs.Carried.{links_for}
use Rattle.profile.specs.declared.tables.SetLinks.{SetLinks}

-- a set by its number, with the links that carry its share numbers
abbrev pub set_links : LinkSet → SetLinks
set_links set = record { id = set.id; carried = links_for set.links }

-- the set from a point to a member
abbrev pub set_to : List LinkSet → ℕ → Option ℕ → Option SetLinks
set_to sets y member = option_and_then (λ z. option_map set_links (set_between sets y z)) member
