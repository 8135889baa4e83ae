-- What is drawn of a point and of a set, in the words of the profile.
use Rattle.std.proofs.Common.{◌≡◌, ◌≢◌, ℕ, Bool, true, false, Option, Some, None, is_some, map, refl, sym, ap, ◌∙◌, subst, eq-eqb, if◌then◌else◌}
use Rattle.std.proofs.lemmas.Bool.{ne_eqb}
use Rattle.std.specs.List.{count_by, range_with_len}
use Rattle.std.specs.Option.{option_map_or}
use Rattle.net_items.specs.declared.items.LinkSet.{LinkSet}
use Rattle.net_items.specs.declared.items.Point.{Point}
use Rattle.net_items.specs.declared.lists.Row.{Row}
use Rattle.link_sets.specs.Availability.{set_available}
use Rattle.route_choice.specs.declared.choices.Far.{Far}
use Rattle.route_choice.specs.declared.choices.Far.TheVariants as far
use Rattle.profile.specs.Local.{is_at, is_member}
use Rattle.profile.specs.Status.{Source, choice, source_row, status}
use Rattle.profile.specs.Whole.{carrier}
use Rattle.excerpts.specs.Excerpt.{ExcerptValue, source_of}
use Rattle.transfer_state.proofs.MatchLemmas.{map_at}
use Rattle.pictures.specs.declared.styles.Colour.{Colour}
use Rattle.pictures.specs.declared.styles.Colour.TheVariants as colour
use Rattle.pictures.specs.declared.styles.Style.{Style}
use Rattle.pictures.specs.declared.styles.Style.TheVariants as style
use Rattle.pictures.specs.Laws.{IsPointShown, IsSetShown, IsShare, PointsShow, SetsShow}
use Rattle.pictures.specs.Shown.{colour_towards, drawn_point, drawn_points, drawn_set, drawn_sets, far_colour, row_share, share_towards, shown_of, style_of}

-- ---- colours

-- the colour of a point by what it depends on: whether it is the destination, its row, and its status
abbrev colour_by : Bool → Option Row → Far → Colour
colour_by is_dest row f = if is_dest then colour.Destination else (if is_some row then far_colour f else colour.White)

dest_colour : (src : Source) (y : ℕ) → y ≡ src.dest → colour_towards src y ≡ colour.Destination
dest_colour src y there = ap (λ (is_dest : Bool). colour_by is_dest (source_row src y) (status src y)) (eq-eqb y src.dest there)

-- of a point that isn't the destination
other_colour : (src : Source) (y : ℕ) (row : Option Row) (f : Far) → y ≢ src.dest → source_row src y ≡ row → status src y ≡ f → colour_towards src y ≡ colour_by false row f
other_colour src y row f other there is =
    ap (λ (is_dest : Bool). colour_by is_dest (source_row src y) (status src y)) (ne_eqb y src.dest other)
    ∙ ap (λ (r : Option Row). colour_by false r (status src y)) there ∙ ap (λ (s : Far). colour_by false row s) is

point_shown : (src : Source) (p : Point) → IsPointShown src p (record { point = p; colour = colour_towards src p.code })
point_shown src p = record {
  point = refl;
  dest = dest_colour src p.code;
  allowed = λ row other there is. other_colour src p.code (Some row) far.Allowed other there is;
  restricted = λ row other there is. other_colour src p.code (Some row) far.Restricted other there is;
  prohibited = λ row other there is. other_colour src p.code (Some row) far.Prohibited other there is;
  white = λ other none. other_colour src p.code None (status src p.code) other none refl;
}

pub points_show : PointsShow
points_show net x e is i p there drawn at =
    let all : drawn_points (shown_of net (Some x)) net ≡ map (drawn_point (Some e)) net.points = ap (λ (about : Option ExcerptValue). drawn_points about net) is in
    subst (IsPointShown (source_of e) p) (sym (map_at (drawn_point (Some e)) (drawn_points (shown_of net (Some x)) net) net.points i p drawn all there at)) (point_shown (source_of e) p)

-- ---- styles and shares

-- the style of a set by what it depends on: whether all its links are available, and whether one is
abbrev style_by : Bool → Bool → Style
style_by all one = if all then style.Plain else (if one then style.Dashed else style.Grey)

-- so many, if that is so
abbrev share_if : Bool → ℕ → Option ℕ
share_if used n = if used then Some n else None

-- the share of z by the row that leads over it or not
abbrev share_by : Source → ℕ → Option Row → Option ℕ
share_by src z row = share_if (option_map_or (λ r. is_member z (choice src r)) row false) (option_map_or (λ r. row_share r (choice src r) z) row 0)

used_share : (src : Source) (y z : ℕ) (row : Row) → source_row src y ≡ Some row → is_member z (choice src row) ≡ true
    → share_towards src y z ≡ Some (count_by (is_at z) (map (carrier row (choice src row)) (range_with_len 0 16)))
unfolding row_share
used_share src y z row there member = ap (share_by src z) there ∙ ap (λ (used : Bool). share_if used (row_share row (choice src row) z)) member

other_share : (src : Source) (y z : ℕ) (row : Row) → source_row src y ≡ Some row → is_member z (choice src row) ≡ false → share_towards src y z ≡ None
other_share src y z row there member = ap (share_by src z) there ∙ ap (λ (used : Bool). share_if used (row_share row (choice src row) z)) member

share_shown : (src : Source) (y z : ℕ) → IsShare src y z (share_towards src y z)
share_shown src y z = record {
  used = used_share src y z;
  unused = record { rowless = λ none. ap (share_by src z) none; other = other_share src y z };
}

set_shown : (src : Source) (set : LinkSet) →
    IsSetShown src set (record { id = set.id; a = set.a; b = set.b; style = style_of set; there = share_towards src set.a set.b; back = share_towards src set.b set.a })
set_shown src set = record {
  id = refl;
  first = refl;
  second = refl;
  plain = λ all. ap (λ (a : Bool). style_by a (set_available set)) all;
  dashed = λ some one. ap (λ (a : Bool). style_by a (set_available set)) some ∙ ap (style_by false) one;
  grey = λ some none. ap (λ (a : Bool). style_by a (set_available set)) some ∙ ap (style_by false) none;
  there = share_shown src set.a set.b;
  back = share_shown src set.b set.a;
}

pub sets_show : SetsShow
sets_show net x e is i set there drawn at =
    let all : drawn_sets (shown_of net (Some x)) net ≡ map (drawn_set (Some e)) net.sets = ap (λ (about : Option ExcerptValue). drawn_sets about net) is in
    subst (IsSetShown (source_of e) set) (sym (map_at (drawn_set (Some e)) (drawn_sets (shown_of net (Some x)) net) net.sets i set drawn all there at)) (set_shown (source_of e) set)
