-- A network as three tables of records, each a list of fields (own).
use Rattle.std.specs.Prelude.{ℕ, ◌+◌, if◌then◌else◌, List, [], ◌∷◌, ◌++◌, map, codes}
use Rattle.std.specs.List.{flat_map, join_with_byte}
use Rattle.std.specs.Option.{option_map_or}
use Rattle.std.specs.Fmt.{decimal}
use Rattle.net_items.specs.declared.items.Point.{Point}
use Rattle.net_items.specs.declared.items.LinkSet.{LinkSet}
use Rattle.net_items.specs.declared.items.Plan.{Plan}
use Rattle.net_items.specs.declared.links.Link.{Link}
use Rattle.net_items.specs.declared.lists.Row.{Row}
use Rattle.net_data.specs.Network.{Network}
use Rattle.point_codes.specs.Codes.{code_text}
use Rattle.tokens.specs.Kinds.{kind_text}
use Rattle.tokens.specs.Marked.{marked_text}
use Rattle.tokens.specs.declared.marked.Format.TheVariants.{Two}
use Rattle.net_sheets.specs.declared.routes.Route.{Route}
use Rattle.net_sheets.specs.declared.routes.Route.TheVariants.{Via, Mate}

-- the fields of a record
abbrev pub Fields : Type 0
Fields = List (List ℕ)

-- a record in text: its fields between commas, then the end of the line
abbrev pub line_text : Fields → List ℕ
line_text fields = join_with_byte 44 fields ++ 10 ∷ []

-- a table in text: the line of its header, and a line for each record
abbrev pub table_text : Fields → List Fields → List ℕ
table_text header records = line_text header ++ flat_map line_text records

-- ---- points

abbrev pub points_header : Fields
points_header = codes "code" ∷ codes "kind" ∷ codes "mate" ∷ []

-- a point: its code, its kind, and its mate's code or nothing
abbrev pub point_record : Point → Fields
point_record p = code_text p.code ∷ kind_text p.kind ∷ option_map_or code_text p.mate [] ∷ []

-- ---- sets

abbrev pub sets_header : Fields
sets_header = codes "id" ∷ codes "a" ∷ codes "b" ∷ codes "links" ∷ []

-- links with their marks, between spaces
abbrev pub links_text : List Link → List ℕ
links_text links = join_with_byte 32 (map (marked_text Two) links)

-- a set: its id, its two points, its links
abbrev pub set_record : LinkSet → Fields
set_record s = decimal s.id ∷ code_text s.a ∷ code_text s.b ∷ links_text s.links ∷ []

-- ---- routes

abbrev pub routes_header : Fields
routes_header = codes "destination" ∷ codes "point" ∷ codes "class" ∷ codes "via" ∷ []

-- the ways of classes, which are numbered from k
abbrev pub class_routes : ℕ → ℕ → ℕ → List (List ℕ) → List Route
class_routes dest y k [] = []
class_routes dest y k (vias ∷ classes) = map (Via dest y k) vias ++ class_routes dest y (k + 1) classes

-- the ways of a row: each via of each class, and then the mate if it has the mate flag
abbrev pub row_routes : ℕ → Row → List Route
row_routes dest r =
    class_routes dest r.point 1 r.classes ++ (if r.mate then Mate dest r.point ∷ [] else [])

-- the ways of a plan, row by row
abbrev pub plan_routes : Plan → List Route
plan_routes p = flat_map (row_routes p.dest) p.rows

-- the ways of plans, plan by plan
abbrev pub routes_of : List Plan → List Route
routes_of plans = flat_map plan_routes plans

-- the destination, the point, the class and the via; or the destination, the point and the word `mate`
abbrev pub route_record : Route → Fields
route_record (Via dest y class z) = code_text dest ∷ code_text y ∷ decimal class ∷ code_text z ∷ []
route_record (Mate dest y) = code_text dest ∷ code_text y ∷ codes "mate" ∷ [] ∷ []

-- ---- the three tables of a network

abbrev pub points_text : Network → List ℕ
points_text net = table_text points_header (map point_record net.points)

abbrev pub sets_text : Network → List ℕ
sets_text net = table_text sets_header (map set_record net.sets)

abbrev pub routes_text : Network → List ℕ
routes_text net = table_text routes_header (map route_record (routes_of net.plans))
