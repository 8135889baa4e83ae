-- The links of a row, told by the sets to the members of its class (own, after Q.704 clause 2.3).
use Rattle.std.specs.Prelude.{ℕ, Bool, false, List, Option, None, map, slice_index_or}
use Rattle.std.specs.List.{range_with_len}
use Rattle.std.specs.Option.{option_map, option_and_then}
use Rattle.sls_share.specs.Share.{via_of, share_of}
use Rattle.profile.specs.declared.tables.LinkRef.{LinkRef}
use Rattle.profile.specs.declared.tables.SetLinks.{SetLinks}

-- the link of a set that carries share number t
abbrev pub link_over : SetLinks → ℕ → Option LinkRef
link_over set t = option_map (λ slc. record { id = set.id; slc = slc }) (slice_index_or set.carried t None)

-- the link that carries SLS s in a class of this size, where `used` tells its members and `sets` the sets to them
abbrev pub link_at : ℕ → List Bool → List (Option SetLinks) → ℕ → Option LinkRef
link_at size used sets s =
    option_and_then (λ set. link_over set (share_of size s))
    (slice_index_or sets (via_of size (slice_index_or used 0 false) (slice_index_or used 1 false) s) None)

-- the links that carry the sixteen SLS
unfoldable pub links_at : ℕ → List Bool → List (Option SetLinks) → List (Option LinkRef)
links_at size used sets = map (link_at size used sets) (range_with_len 0 16)
