-- What the rows of a plan use.
use Rattle.std.specs.Prelude.{ℕ, Bool, not, ◌&&◌, ◌||◌, ◌==◌, List}
use Rattle.std.specs.List.{list_any}
use Rattle.net_items.specs.Lookups.{is_via}
use Rattle.net_items.specs.declared.items.Point.{Point}
use Rattle.net_items.specs.declared.items.LinkSet.{LinkSet}
use Rattle.net_items.specs.declared.items.Plan.{Plan}
use Rattle.net_items.specs.declared.lists.Row.{Row}
use Rattle.plan_rows.specs.Rows.{is_mate}

-- a row of y leads to z as a via, and the plan's destination isn't z
abbrev pub row_uses : ℕ → ℕ → ℕ → Row → Bool
row_uses y z dest r = (r.point == y && not (z == dest)) && is_via r z

-- a row of one of them leads to the other as a via, and that isn't the plan's destination
abbrev pub either_uses : ℕ → ℕ → ℕ → Row → Bool
either_uses y z dest r = row_uses y z dest r || row_uses z y dest r

-- the plan has a row of one of them that leads to the other
abbrev pub uses_pair : ℕ → ℕ → Plan → Bool
uses_pair y z p = list_any (either_uses y z p.dest) p.rows

-- a row of the point
abbrev pub is_row_of : ℕ → Row → Bool
is_row_of c r = r.point == c

-- the point is the plan's destination or has a row
abbrev pub uses_point : ℕ → Plan → Bool
uses_point c p = p.dest == c || list_any (is_row_of c) p.rows

-- a row of the point with the mate flag
abbrev pub is_flagged : ℕ → Row → Bool
is_flagged y r = r.point == y && r.mate

-- the plan has a row of y with the mate flag
abbrev pub has_flag : ℕ → Plan → Bool
has_flag y p = list_any (is_flagged y) p.rows

-- a row of y leads to z, as a via or as its mate
abbrev pub row_leads : List Point → ℕ → ℕ → Row → Bool
row_leads points y z r = r.point == y && (is_via r z || (r.mate && is_mate points y z))

-- a row of one end of the set leads to the other
abbrev pub either_leads : List Point → LinkSet → Row → Bool
either_leads points s r = row_leads points s.a s.b r || row_leads points s.b s.a r

-- the plan has a row of one end of the set that leads to the other
abbrev pub uses_set : List Point → LinkSet → Plan → Bool
uses_set points s p = list_any (either_leads points s) p.rows
