-- What a picture shows (own): how link sets stand (after Q.704 clause 3.2), and how each point leads its traffic to a destination (after clauses 2.3 and 13.2 to 13.4).
use Rattle.std.specs.Prelude.{ℕ, ◌==◌, ◌||◌, not, Bool, false, List, [], ◌++◌, Option, Some, None, map, is_some, if◌then◌else◌, codes}
use Rattle.std.specs.List.{list_all, count_by, range_with_len}
use Rattle.std.specs.Option.{option_map, option_map_or, option_and_then}
use Rattle.std.specs.Fmt.{decimal}
use Rattle.point_codes.specs.Codes.{code_text}
use Rattle.net_items.specs.declared.items.LinkSet.{LinkSet}
use Rattle.net_items.specs.declared.items.Point.{Point}
use Rattle.net_items.specs.declared.lists.Row.{Row}
use Rattle.net_data.specs.Network.{Network}
use Rattle.net_items.specs.Links.{link_available}
use Rattle.link_sets.specs.Availability.{set_available}
use Rattle.route_choice.specs.declared.choices.Far.{Far}
use Rattle.route_choice.specs.declared.choices.Far.TheVariants as far
use Rattle.route_choice.specs.declared.choices.Choice.{Choice}
use Rattle.profile.specs.Local.{is_at, is_member}
use Rattle.profile.specs.Status.{Source, source_row, status, choice}
use Rattle.profile.specs.Whole.{carrier}
use Rattle.excerpts.specs.Excerpt.{ExcerptValue, excerpt_at, source_of}
use Rattle.pictures.specs.declared.drawn.DrawnPoint.{DrawnPoint}
use Rattle.pictures.specs.declared.drawn.DrawnSet.{DrawnSet}
use Rattle.pictures.specs.declared.faults.PictureFault.{PictureFault}
use Rattle.pictures.specs.declared.faults.PictureFault.TheVariants as fault
use Rattle.pictures.specs.declared.styles.Style.{Style}
use Rattle.pictures.specs.declared.styles.Style.TheVariants as style
use Rattle.pictures.specs.declared.styles.Colour.{Colour}
use Rattle.pictures.specs.declared.styles.Colour.TheVariants as colour

-- how a set is drawn: plain if all its links are available, dashed if some are, grey if none is
abbrev pub style_of : LinkSet → Style
style_of set = if list_all link_available set.links then style.Plain else (if set_available set then style.Dashed else style.Grey)

-- the colour of a status
abbrev pub far_colour : Far → Colour
far_colour far.Allowed = colour.Allowed
far_colour far.Restricted = colour.Restricted
far_colour far.Prohibited = colour.Prohibited

-- the colour of a point towards a destination, which has one of its own: that of the point's status, white if it has no row
abbrev pub colour_towards : Source → ℕ → Colour
colour_towards src y =
    if y == src.dest then colour.Destination else (if is_some (source_row src y) then far_colour (status src y) else colour.White)

-- the same in a picture, which may be asked about no destination
abbrev pub colour_of : Option ExcerptValue → ℕ → Colour
colour_of about y = option_map_or (λ x. colour_towards (source_of x) y) about colour.White

-- a colour in red, green and blue
unfoldable pub hex_text : Colour → List ℕ
hex_text colour.Destination = codes "#56b4e9"
hex_text colour.Allowed = codes "#b5e3cb"
hex_text colour.Restricted = codes "#eda93b"
hex_text colour.Prohibited = codes "#d55e00"
hex_text colour.White = codes "#ffffff"

-- y has a row, and z is a member of its choice: y leads traffic to the destination over z
abbrev pub is_member_of_choice : Source → ℕ → ℕ → Bool
is_member_of_choice src y z = option_map_or (λ row. is_member z (choice src row)) (source_row src y) false

-- how many of the vias that carry the sixteen signalling link selections of a row by a choice are z
unfoldable pub row_share : Row → Choice → ℕ → ℕ
row_share row c z = count_by (is_at z) (map (carrier row c) (range_with_len 0 16))

-- how many of them y leads over z, towards the destination
abbrev pub selections_over : Source → ℕ → ℕ → ℕ
selections_over src y z = option_map_or (λ row. row_share row (choice src row) z) (source_row src y) 0

-- how many of them y leads over z, if it leads traffic to the destination over z
abbrev pub share_towards : Source → ℕ → ℕ → Option ℕ
share_towards src y z = if is_member_of_choice src y z then Some (selections_over src y z) else None

-- the same in a picture, which may be asked about no destination
abbrev pub share_of : Option ExcerptValue → ℕ → ℕ → Option ℕ
share_of about y z = option_and_then (λ x. share_towards (source_of x) y z) about

-- ---- what a picture draws

-- a point in its colour
abbrev pub drawn_point : Option ExcerptValue → Point → DrawnPoint
drawn_point about p = record { point = p; colour = colour_of about p.code }

-- a set in its style, with what its first end leads over it to the second, and the second to the first
abbrev pub drawn_set : Option ExcerptValue → LinkSet → DrawnSet
drawn_set about set = record {
  id = set.id;
  a = set.a;
  b = set.b;
  style = style_of set;
  there = share_of about set.a set.b;
  back = share_of about set.b set.a;
}

-- all points, in rising code
abbrev pub drawn_points : Option ExcerptValue → Network → List DrawnPoint
drawn_points about net = map (drawn_point about) net.points

-- all sets, in rising id
abbrev pub drawn_sets : Option ExcerptValue → Network → List DrawnSet
drawn_sets about net = map (drawn_set about) net.sets

-- ---- how both texts print it

-- `: CODE N/16`: y leads so many signalling link selections this way; nothing if it leads none
abbrev pub part_text : ℕ → Option ℕ → List ℕ
part_text y share = option_map_or (λ n. codes ": " ++ (code_text y ++ (codes " " ++ (decimal n ++ codes "/16")))) share []

-- the label of a set: `ID`, and how its ends lead traffic over it, as `36: 2-1-1 8/16`
unfoldable pub label_text : DrawnSet → List ℕ
label_text set = decimal set.id ++ (part_text set.a set.there ++ part_text set.b set.back)

-- a set is bold if an end leads traffic over it
abbrev pub is_bold : DrawnSet → Bool
is_bold set = is_some set.there || is_some set.back

-- ---- what is asked

-- what a picture is asked about: the excerpt of the destination, if one is given
abbrev pub shown_of : Network → Option ℕ → Option ExcerptValue
shown_of net about = option_and_then (excerpt_at net) about

-- the destination, if one is asked about
abbrev pub dest_of : Option ExcerptValue → Option ℕ
dest_of about = option_map (λ (x : ExcerptValue). x.plan.dest) about

-- the picture is asked about a destination that has no plan
abbrev pub lacks_plan : Network → Option ℕ → Bool
lacks_plan net about = option_map_or (λ x. not (is_some (excerpt_at net x))) about false

-- why there is no picture: that plan, or else memory
abbrev pub picture_fault : Network → Option ℕ → PictureFault
picture_fault net about = if lacks_plan net about then fault.NoPlan else fault.OutOfMemory
