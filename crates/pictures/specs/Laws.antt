-- What a picture about a destination says of a network, in the words of the profile: the colour of a point is its status from scratch, the style of a set the availability of its links, and a share the number of signalling link selections that go that way.
use Rattle.std.specs.Prelude.{◌≡◌, ◌≢◌, ℕ, true, false, Option, Some, None, map, slice_get}
use Rattle.std.specs.List.{count_by, list_all, range_with_len}
use Rattle.net_items.specs.declared.items.LinkSet.{LinkSet}
use Rattle.net_items.specs.declared.items.Point.{Point}
use Rattle.net_items.specs.declared.lists.Row.{Row}
use Rattle.net_data.specs.Network.{Network}
use Rattle.net_items.specs.Links.{link_available}
use Rattle.link_sets.specs.Availability.{set_available}
use Rattle.route_choice.specs.declared.choices.Far.TheVariants as far
use Rattle.profile.specs.Local.{is_at, is_member}
use Rattle.profile.specs.Status.{Source, choice, source_row, status}
use Rattle.profile.specs.Whole.{carrier}
use Rattle.excerpts.specs.Excerpt.{ExcerptValue, excerpt_at, source_of}
use Rattle.pictures.specs.declared.drawn.DrawnPoint.{DrawnPoint}
use Rattle.pictures.specs.declared.drawn.DrawnSet.{DrawnSet}
use Rattle.pictures.specs.declared.styles.Style.TheVariants as style
use Rattle.pictures.specs.declared.styles.Colour.TheVariants as colour
use Rattle.pictures.specs.Shown.{drawn_points, drawn_sets, shown_of}

-- the colour of a point with a row is that of its status towards the destination; the destination has one of its own, and a point without a row is white
pub record IsPointShown (src : Source) (p : Point) (drawn : DrawnPoint) : Type 0 where
  pub point : drawn.point ≡ p
  pub dest : p.code ≡ src.dest → drawn.colour ≡ colour.Destination
  pub allowed : (row : Row) → p.code ≢ src.dest → source_row src p.code ≡ Some row → status src p.code ≡ far.Allowed → drawn.colour ≡ colour.Allowed
  pub restricted : (row : Row) → p.code ≢ src.dest → source_row src p.code ≡ Some row → status src p.code ≡ far.Restricted → drawn.colour ≡ colour.Restricted
  pub prohibited : (row : Row) → p.code ≢ src.dest → source_row src p.code ≡ Some row → status src p.code ≡ far.Prohibited → drawn.colour ≡ colour.Prohibited
  pub white : p.code ≢ src.dest → source_row src p.code ≡ None → drawn.colour ≡ colour.White

-- y leads no traffic over z: it has no row, or z is no member of its choice
pub record IsUnused (src : Source) (y z : ℕ) (share : Option ℕ) : Type 0 where
  pub rowless : source_row src y ≡ None → share ≡ None
  pub other : (row : Row) → source_row src y ≡ Some row → is_member z (choice src row) ≡ false → share ≡ None

-- the share of z is the number of the sixteen signalling link selections of y whose carrier is z, if z is a member of y's choice, and else none
pub record IsShare (src : Source) (y z : ℕ) (share : Option ℕ) : Type 0 where
  pub used : (row : Row) → source_row src y ≡ Some row → is_member z (choice src row) ≡ true → share ≡ Some (count_by (is_at z) (map (carrier row (choice src row)) (range_with_len 0 16)))
  pub unused : IsUnused src y z share

-- a set is plain if all its links are available, dashed if it is available and not all its links are, and else grey
pub record IsSetShown (src : Source) (set : LinkSet) (drawn : DrawnSet) : Type 0 where
  pub id : drawn.id ≡ set.id
  pub first : drawn.a ≡ set.a
  pub second : drawn.b ≡ set.b
  pub plain : list_all link_available set.links ≡ true → drawn.style ≡ style.Plain
  pub dashed : list_all link_available set.links ≡ false → set_available set ≡ true → drawn.style ≡ style.Dashed
  pub grey : list_all link_available set.links ≡ false → set_available set ≡ false → drawn.style ≡ style.Grey
  pub there : IsShare src set.a set.b drawn.there
  pub back : IsShare src set.b set.a drawn.back

-- each point of the network stands in a picture about a destination as the profile has it
abbrev pub PointsShow : Type 0
PointsShow = (net : Network) (x : ℕ) (e : ExcerptValue) → excerpt_at net x ≡ Some e → (i : ℕ) (p : Point) → slice_get net.points i ≡ Some p
    → (drawn : DrawnPoint) → slice_get (drawn_points (shown_of net (Some x)) net) i ≡ Some drawn → IsPointShown (source_of e) p drawn

-- each set too
abbrev pub SetsShow : Type 0
SetsShow = (net : Network) (x : ℕ) (e : ExcerptValue) → excerpt_at net x ≡ Some e → (i : ℕ) (set : LinkSet) → slice_get net.sets i ≡ Some set
    → (drawn : DrawnSet) → slice_get (drawn_sets (shown_of net (Some x)) net) i ≡ Some drawn → IsSetShown (source_of e) set drawn
