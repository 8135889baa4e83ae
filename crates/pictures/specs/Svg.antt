-- A picture as an SVG document (own).
use Rattle.std.specs.Prelude.{ℕ, ◌+◌, ◌-◌, Bool, List, [], ◌++◌, Option, is_some, if◌then◌else◌, codes}
use Rattle.std.specs.List.{flat_map}
use Rattle.std.specs.Fmt.{decimal}
use Rattle.point_codes.specs.Codes.{code_text}
use Rattle.net_items.specs.declared.items.Kind.{Kind}
use Rattle.net_items.specs.declared.items.Kind.TheVariants.{Sep, Stp}
use Rattle.net_items.specs.declared.items.Point.{Point}
use Rattle.net_data.specs.Network.{Network}
use Rattle.excerpts.specs.Excerpt.{ExcerptValue}
use Rattle.pictures.specs.declared.curves.Curve.{Curve}
use Rattle.pictures.specs.declared.drawn.DrawnPoint.{DrawnPoint}
use Rattle.pictures.specs.declared.drawn.DrawnSet.{DrawnSet}
use Rattle.pictures.specs.declared.frame.Canvas.{Canvas}
use Rattle.pictures.specs.declared.labels.Area.{Area}
use Rattle.pictures.specs.declared.labels.PlacedSet.{PlacedSet}
use Rattle.pictures.specs.declared.places.Spot.{Spot}
use Rattle.pictures.specs.declared.places.Place.{Place}
use Rattle.pictures.specs.declared.stands.Stand.{Stand}
use Rattle.pictures.specs.declared.styles.Style.{Style}
use Rattle.pictures.specs.declared.styles.Style.TheVariants.{Plain, Dashed, Grey}
use Rattle.pictures.specs.declared.styles.Colour.{Colour}
use Rattle.pictures.specs.declared.styles.Colour.TheVariants.{Destination, Allowed, Restricted, Prohibited, White}
use Rattle.pictures.specs.Shown.{drawn_points, drawn_sets, hex_text, is_bold, label_text, shown_of}
use Rattle.pictures.specs.Title.{title_text}
use Rattle.pictures.specs.Curves.{spot_text}
use Rattle.pictures.specs.Labels.{label_area, placed_sets}
use Rattle.pictures.specs.Layout.{frame_of, canvas_of, places_of, spot_at, stands_of}

-- ---- points and sets

-- how a set is drawn, by the rules of the document's style
abbrev pub svg_style : Style → List ℕ
svg_style Plain = codes "plain"
svg_style Dashed = codes "dashed"
svg_style Grey = codes "grey"

-- a set that carries traffic to the destination is bold
abbrev pub svg_bold : Bool → List ℕ
svg_bold bold = if bold then codes " bold" else []

-- an arrow near the second end, if the first leads traffic over the set
abbrev pub svg_there : Option ℕ → List ℕ
svg_there share = if is_some share then codes " marker-end='url(#there)'" else []

-- an arrow near the first end, if the second leads traffic over the set
abbrev pub svg_back : Option ℕ → List ℕ
svg_back share = if is_some share then codes " marker-start='url(#back)'" else []

-- how a set is drawn: its style and its arrows
abbrev pub svg_class : DrawnSet → List ℕ
svg_class set =
    codes "<path class='set " ++ (svg_style set.style ++ (svg_bold (is_bold set) ++ (codes "'" ++ (svg_there set.there ++ svg_back set.back))))

-- the path of a curve
abbrev pub svg_path : Curve → List ℕ
svg_path c =
    codes " d='M " ++ (spot_text c.from ++ (codes " C " ++ (spot_text c.leaving ++ (codes " " ++ (spot_text c.arriving ++ (codes " " ++ (spot_text c.to ++ codes "'/>\n")))))))

-- a set as a curve between the places of its points
unfoldable pub svg_set : PlacedSet → List ℕ
svg_set placed = svg_class placed.set ++ svg_path placed.curve

-- white ground below a label
unfoldable pub svg_ground : Area → List ℕ
svg_ground area =
    codes "<rect class='ground' x='" ++ (decimal area.left ++ (codes "' y='" ++ (decimal area.top ++ (codes "' width='" ++ (decimal (area.right - area.left)
    ++ (codes "' height='" ++ (decimal (area.bottom - area.top) ++ codes "'/>")))))))

-- where a text stands
abbrev pub svg_at : Spot → List ℕ
svg_at spot = codes "<text class='label' dy='3' x='" ++ (decimal spot.x ++ (codes "' y='" ++ (decimal spot.y ++ codes "'>")))

-- the words of a label
unfoldable pub svg_words : PlacedSet → List ℕ
svg_words placed = svg_at placed.label.spot ++ (label_text placed.set ++ codes "</text>\n")

-- the label of a set
unfoldable pub svg_label : PlacedSet → List ℕ
svg_label placed = svg_ground (label_area placed.label) ++ svg_words placed

-- the shape of a point: a box for a transfer point, an ellipse for an end point
abbrev pub svg_shape : Kind → List ℕ
svg_shape Sep = codes "<ellipse rx='27' ry='12'"
svg_shape Stp = codes "<rect x='-30' y='-13' width='60' height='26'"

-- a point of that colour at a spot, with its code
abbrev pub svg_body : Point → Spot → Colour → List ℕ
svg_body p spot colour =
    codes "<g transform='translate(" ++ (spot_text spot ++ (codes ")'>" ++ (svg_shape p.kind
    ++ (codes " fill='" ++ (hex_text colour ++ (codes "'/><text y='4'>" ++ (code_text p.code ++ codes "</text></g>\n")))))))

-- a point at its place
unfoldable pub svg_point : List Place → DrawnPoint → List ℕ
svg_point places p = svg_body p.point (spot_at places p.point.code) p.colour

-- ---- the legend

-- what the lines mean
unfoldable pub svg_line_keys : List ℕ
svg_line_keys =
    codes "<g class='key'>\n<path d='M 20 44 H 60'/><text x='68' y='48'>all links available</text>\n"
    ++ (codes "<path class='dashed' d='M 190 44 H 230'/><text x='238' y='48'>some available</text>\n"
    ++ codes "<path class='grey' d='M 340 44 H 380'/><text x='388' y='48'>none available</text>\n")

-- what bold lines and their labels mean
unfoldable pub svg_bold_key : List ℕ
svg_bold_key =
    codes "<path class='bold' d='M 490 44 H 530'/><path class='head' d='M 506 38 L 518 44 L 506 50 z'/><text x='538' y='48'>the point named leads so many of the sixteen signalling link selections this way</text>\n"

-- what a colour is called
abbrev pub colour_name : Colour → List ℕ
colour_name Destination = codes "destination"
colour_name Allowed = codes "allowed"
colour_name Restricted = codes "restricted"
colour_name Prohibited = codes "prohibited"
colour_name White = codes "no row"

-- a box of a colour, so far to the right
abbrev pub svg_swatch : ℕ → Colour → List ℕ
svg_swatch x colour = codes "<rect x='" ++ (decimal x ++ (codes "' y='60' width='24' height='14' fill='" ++ (hex_text colour ++ codes "'/>")))

-- its name, so far to the right
abbrev pub svg_name : ℕ → Colour → List ℕ
svg_name x colour = codes "<text x='" ++ (decimal x ++ (codes "' y='71'>" ++ (colour_name colour ++ codes "</text>\n")))

-- what a colour means, so far to the right
abbrev pub svg_colour_key : ℕ → Colour → List ℕ
svg_colour_key x colour = svg_swatch x colour ++ svg_name (x + 32) colour

-- what the colours mean
abbrev pub svg_colour_keys : List ℕ
svg_colour_keys =
    svg_colour_key 20 Destination ++ (svg_colour_key 140 Allowed ++ (svg_colour_key 260 Restricted ++ (svg_colour_key 380 Prohibited ++ svg_colour_key 500 White)))

-- what is told of a destination
abbrev pub svg_about_keys : List ℕ
svg_about_keys = svg_bold_key ++ svg_colour_keys

-- the legend
abbrev pub svg_legend : Option ExcerptValue → List ℕ
svg_legend about = svg_line_keys ++ ((if is_some about then svg_about_keys else []) ++ codes "</g>\n")

-- ---- the document

-- how the document begins: with the size of its canvas
unfoldable pub svg_open : Canvas → List ℕ
svg_open canvas =
    codes "<svg xmlns='http://www.w3.org/2000/svg' viewBox='0 0 " ++ (decimal canvas.width ++ (codes " " ++ (decimal canvas.height ++ codes "' font-family='Helvetica, Arial, sans-serif' font-size='11' text-anchor='middle'>\n")))

-- the title, for who hears the picture and for who sees it
abbrev pub svg_title : List ℕ → List ℕ
svg_title title = codes "<title>" ++ (title ++ (codes "</title>\n<text class='title' x='20' y='24'>" ++ (title ++ codes "</text>\n")))

-- how lines, shapes and texts are drawn: a label stands on a white ground
unfoldable pub svg_rules : List ℕ
svg_rules =
    codes "<style>\npath { fill: none; stroke: #333333 }\n.dashed { stroke-dasharray: 6 4 }\n.grey { stroke: #999999 }\n.bold { stroke-width: 3 }\n.head { fill: #333333; stroke: none }\n"
    ++ codes "rect, ellipse { stroke: #333333 }\n.ground { fill: #ffffff; stroke: none }\n.label { font-size: 9px }\n.key { text-anchor: start }\n.title { font-size: 14px; text-anchor: start }\n</style>\n"

-- the arrows: their tips are 34 pixels from where the line ends, so that no shape of a point covers them
unfoldable pub svg_arrows : List ℕ
svg_arrows =
    codes "<marker id='there' markerUnits='userSpaceOnUse' markerWidth='12' markerHeight='12' refX='46' refY='6' orient='auto'><path class='head' d='M 0 1 L 12 6 L 0 11 z'/></marker>\n"
    ++ codes "<marker id='back' markerUnits='userSpaceOnUse' markerWidth='12' markerHeight='12' refX='-34' refY='6' orient='auto'><path class='head' d='M 12 1 L 0 6 L 12 11 z'/></marker>\n"

-- its white ground
unfoldable pub svg_canvas : Canvas → List ℕ
svg_canvas canvas = codes "<rect class='ground' width='" ++ (decimal canvas.width ++ (codes "' height='" ++ (decimal canvas.height ++ codes "'/>\n")))

-- what stands before the sets, without the legend
unfoldable pub svg_head : Canvas → List ℕ → List ℕ
svg_head canvas title = svg_open canvas ++ (svg_rules ++ (svg_arrows ++ (svg_canvas canvas ++ svg_title title)))

-- what stands before the sets
abbrev pub svg_begin : Canvas → List ℕ → Option ExcerptValue → List ℕ
svg_begin canvas title about = svg_head canvas title ++ svg_legend about

-- the sets, and above them their labels, and above these the points, each at its place
abbrev pub svg_drawing : List Place → List DrawnPoint → List PlacedSet → List ℕ
svg_drawing places points sets = flat_map svg_set sets ++ (flat_map svg_label sets ++ (flat_map (svg_point places) points ++ codes "</svg>\n"))

-- what is shown of a network on a canvas, at the places of its points
unfoldable pub svg_shown : Option ExcerptValue → Network → Canvas → List Place → List ℕ
svg_shown about net canvas places = svg_drawing places (drawn_points about net) (placed_sets canvas places (drawn_sets about net))

-- the picture of a network whose points stand so
unfoldable pub svg_placed : Option ExcerptValue → Option ℕ → Network → List Stand → List ℕ
svg_placed about version net stands =
    svg_begin (canvas_of (frame_of stands)) (title_text about version net) about ++ svg_shown about net (canvas_of (frame_of stands)) (places_of stands)

-- the picture of a network
abbrev pub svg_of : Option ExcerptValue → Option ℕ → Network → List ℕ
svg_of about version net = svg_placed about version net (stands_of net)

-- the picture of a network, about a destination if one is asked about, and of that version if it is one
abbrev pub svg_text : Network → Option ℕ → Option ℕ → List ℕ
svg_text net about version = svg_of (shown_of net about) version net
