-- A picture as an undirected graph in the language DOT of Graphviz (own).
use Rattle.std.specs.Prelude.{ℕ, nat_lt, Bool, List, [], ◌++◌, Option, Some, None, is_some, if◌then◌else◌, codes}
use Rattle.std.specs.List.{flat_map}
use Rattle.std.specs.Option.{option_map_or}
use Rattle.point_codes.specs.Codes.{code_text}
use Rattle.net_items.specs.declared.items.Kind.{Kind}
use Rattle.net_items.specs.declared.items.Kind.TheVariants.{Sep, Stp}
use Rattle.net_items.specs.declared.items.Point.{Point}
use Rattle.net_data.specs.Network.{Network}
use Rattle.excerpts.specs.Excerpt.{ExcerptValue}
use Rattle.pictures.specs.declared.drawn.DrawnPoint.{DrawnPoint}
use Rattle.pictures.specs.declared.drawn.DrawnSet.{DrawnSet}
use Rattle.pictures.specs.declared.styles.Style.{Style}
use Rattle.pictures.specs.declared.styles.Style.TheVariants.{Plain, Dashed, Grey}
use Rattle.pictures.specs.Shown.{drawn_points, drawn_sets, hex_text, is_bold, label_text, shown_of}
use Rattle.pictures.specs.Title.{title_text}

-- the shape of a point: a box for a transfer point, an ellipse for an end point
abbrev pub shape_text : Kind → List ℕ
shape_text Sep = codes "ellipse"
shape_text Stp = codes "box"

-- a point, named and so labelled by its code
abbrev pub dot_point : DrawnPoint → List ℕ
dot_point p =
    codes "  \"" ++ (code_text p.point.code ++ (codes "\" [shape=" ++ (shape_text p.point.kind ++ (codes ", fillcolor=\"" ++ (hex_text p.colour ++ codes "\"];\n")))))

-- a mated pair side by side, at the point of the lower code
abbrev pub dot_pair : Point → List ℕ
dot_pair p =
    option_map_or (λ m. if nat_lt p.code m then codes "  { rank=same; \"" ++ (code_text p.code ++ (codes "\"; \"" ++ (code_text m ++ codes "\" }\n"))) else []) p.mate []

-- how an edge is drawn
abbrev pub dot_style : Style → List ℕ
dot_style Plain = []
dot_style Dashed = codes ", style=dashed"
dot_style Grey = codes ", color=\"#999999\""

-- an edge is broad if the set carries traffic to the destination
abbrev pub dot_width : Bool → List ℕ
dot_width bold = if bold then codes ", penwidth=3" else []

-- an edge has an arrow from each end that leads traffic over the set
abbrev pub dot_way : Option ℕ → Option ℕ → List ℕ
dot_way (Some _) (Some _) = codes ", dir=both"
dot_way (Some _) None = codes ", dir=forward"
dot_way None (Some _) = codes ", dir=back"
dot_way None None = []

-- how the edge of a set is drawn
abbrev pub dot_attributes : DrawnSet → List ℕ
dot_attributes set = codes "\"" ++ (dot_style set.style ++ (dot_width (is_bold set) ++ (dot_way set.there set.back ++ codes "];\n")))

-- the two ends of an edge
abbrev pub dot_ends : ℕ → ℕ → List ℕ
dot_ends a b = codes "  \"" ++ (code_text a ++ (codes "\" -- \"" ++ (code_text b ++ codes "\" [label=\"")))

-- a set as an edge with its label
abbrev pub dot_set : DrawnSet → List ℕ
dot_set set = dot_ends set.a set.b ++ (label_text set ++ dot_attributes set)

-- what the lines mean
unfoldable pub dot_lines : List ℕ
dot_lines = codes "line: plain, all links available; dashed, some available; grey, none available"

-- what bold lines and colours mean, if the picture is about a destination
unfoldable pub dot_about : List ℕ
dot_about =
    codes "<br/>bold, with an arrow: the point named leads so many of the sixteen signalling link selections this way"
    ++ codes "<br/>destination blue, allowed green, restricted amber, prohibited red, no row white"

-- the legend, a label of the whole graph
abbrev pub dot_legend : Option ExcerptValue → List ℕ
dot_legend about = dot_lines ++ (if is_some about then dot_about else [])

-- how the graph begins, and what all its points and edges have: it goes from left to right, so that labels have room
unfoldable pub dot_head : List ℕ
dot_head =
    codes "graph network {\n  graph [rankdir=LR, nodesep=0.15, ranksep=1.5, fontname=\"Helvetica\", fontsize=11, labelloc=b];\n"
    ++ (codes "  node [fontname=\"Helvetica\", fontsize=11, style=filled];\n" ++ codes "  edge [fontname=\"Helvetica\", fontsize=9];\n")

-- what stands before the points: the title and the legend
abbrev pub dot_begin : Option ExcerptValue → Option ℕ → Network → List ℕ
dot_begin about version net = dot_head ++ (codes "  label=<" ++ (title_text about version net ++ (codes "<br/>" ++ (dot_legend about ++ codes ">;\n"))))

-- the points, the pairs and the sets
abbrev pub dot_drawing : List DrawnPoint → List Point → List DrawnSet → List ℕ
dot_drawing drawn points sets = flat_map dot_point drawn ++ (flat_map dot_pair points ++ (flat_map dot_set sets ++ codes "}\n"))

-- the picture of a network
abbrev pub dot_of : Option ExcerptValue → Option ℕ → Network → List ℕ
dot_of about version net = dot_begin about version net ++ dot_drawing (drawn_points about net) net.points (drawn_sets about net)

-- the picture of a network, about a destination if one is asked about, and of that version if it is one
abbrev pub dot_text : Network → Option ℕ → Option ℕ → List ℕ
dot_text net about version = dot_of (shown_of net about) version net
