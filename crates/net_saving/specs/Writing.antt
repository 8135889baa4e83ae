-- The document that a network is written as, in format 2.
use Rattle.std.specs.Prelude.{ℕ, nat_lt, List, [], ◌∷◌, map, if◌then◌else◌, pos, codes}
use Rattle.std.specs.List.{flat_map}
use Rattle.std.specs.Option.{option_map_or}
use Rattle.std.specs.Ordering.{nat_cmp, match_ordering}
use Rattle.std.specs.Cmp.Lexicographic.{slice_cmp}
use Rattle.toml.specs.Data.{Data, string, integer, boolean, array, Members, no_members, member}
use Rattle.toml.specs.View.{items_of}
use Rattle.net_items.specs.declared.items.Point.{Point}
use Rattle.net_items.specs.declared.items.LinkSet.{LinkSet}
use Rattle.net_items.specs.declared.items.Plan.{Plan}
use Rattle.net_data.specs.Network.{Network}
use Rattle.tokens.specs.Entries.{pair_text, plan_text, point_text, set_text}

-- a point and its mate, written once: at the one of the lower code
abbrev pub pair_texts : Point → List (List ℕ)
pair_texts p = option_map_or (λ m. if nat_lt p.code m then pair_text p.code m ∷ [] else []) p.mate []

-- a key with its entries before other members; without entries there is no key
abbrev pub with_entries : List ℕ → List (List ℕ) → Members → Members
with_entries key [] rest = rest
with_entries key (text ∷ texts) rest = member key (array (items_of (map string (text ∷ texts)))) rest

-- the document of a network, its keys in rising order
abbrev pub document_of : Network → Members
document_of net =
    member (codes "format") (integer (pos 2)) (member (codes "ni") (integer (pos net.ni))
    (with_entries (codes "pairs") (flat_map pair_texts net.points) (with_entries (codes "plans") (map plan_text net.plans)
    (with_entries (codes "points") (map point_text net.points) (with_entries (codes "sets") (map set_text net.sets)
    (member (codes "tfr") (boolean net.tfr) no_members))))))

-- the members with a key set, the keys in rising order
abbrev pub insert_member : List ℕ → Data → Members → Members
insert_member k d no_members = member k d no_members
insert_member k d (member l e ms) = match_ordering (slice_cmp nat_cmp k l) (member k d (member l e ms)) (member l d ms) (member l e (insert_member k d ms))

-- the members with a key set to an array, if that has elements
abbrev pub insert_array : List ℕ → List Data → Members → Members
insert_array k [] ms = ms
insert_array k (d ∷ ds) ms = insert_member k (array (items_of (d ∷ ds))) ms

-- the members with the key of the points set, if there are any
abbrev pub insert_points : List Point → Members → Members
insert_points points ms = insert_array (codes "points") (map (λ x. string (point_text x)) points) ms

-- the members with the key of the mated pairs set, if there are any
abbrev pub insert_pairs : List Point → Members → Members
insert_pairs points ms = insert_array (codes "pairs") (map string (flat_map pair_texts points)) ms

-- the members with the key of the sets set, if there are any
abbrev pub insert_sets : List LinkSet → Members → Members
insert_sets sets ms = insert_array (codes "sets") (map (λ x. string (set_text x)) sets) ms

-- the members with the key of the plans set, if there are any
abbrev pub insert_plans : List Plan → Members → Members
insert_plans plans ms = insert_array (codes "plans") (map (λ x. string (plan_text x)) plans) ms

-- the members with the arrays of a network set
abbrev pub insert_arrays : Network → Members → Members
insert_arrays net ms = insert_pairs net.points (insert_plans net.plans (insert_points net.points (insert_sets net.sets ms)))
