-- The links of a row by the sets to its members.
use Rattle.std.proofs.Common.{◌≡◌, ℕ, zero, suc, ◌<◌, ◌%◌, List, [], ◌∷◌, Option, Some, None, map, cond, eqb, Bool, true, false, refl, ap, ◌∙◌, arith, get_or, is_some}
use Rattle.std.specs.List.{range_with_len}
use Rattle.std.specs.Option.{option_map, option_and_then}
use Rattle.std.proofs.lemmas.List.FromFn.{get_or-range_with_len, length-range_with_len}
use Rattle.net_items.specs.declared.lists.Row.{Row}
use Rattle.net_items.specs.declared.items.LinkSet.{LinkSet}
use Rattle.net_items.specs.Lookups.{set_between}
use Rattle.route_choice.specs.declared.choices.Choice.{Choice}
use Rattle.link_sets.proofs.ListLemmas.{map_same}
use Rattle.sls_share.specs.Share.{link_for, via_of, share_of}
use Rattle.sls_share.proofs.CoverLemmas.{share_low}
use Rattle.sls_share.proofs.CarriedLemmas.{link_of_share}
use Rattle.profile.specs.declared.tables.SetLinks.{SetLinks}
use Rattle.profile.specs.Status.{Source}
use Rattle.profile.specs.Links.{link_over, link_at, links_at}
use Rattle.profile.specs.Whole.{size_of, member, link_between, link_of}
use Rattle.transfer_state.specs.Members.{set_links, set_to}

via_low : (size : ℕ) (first second : Bool) (s : ℕ) → via_of size first second s < 2
via_low size first second s = go (eqb size 1) (eqb (s % 2) 0) first second
  where
    go : (a b f g : Bool) → cond a 0 (cond b (cond f 0 1) (cond g 1 0)) < 2
    go true b f g = omega arith
    go false true true g = omega arith
    go false true false g = omega arith
    go false false f true = omega arith
    go false false f false = omega arith

-- the set in a place is the one to the member there
position_to : (sets : List LinkSet) (y : ℕ) (c : Choice) (position : ℕ) → position < 2 → get_or (set_to sets y (member c 0) ∷ set_to sets y (member c 1) ∷ []) position None ≡ set_to sets y (member c position)
position_to sets y c zero low = refl
position_to sets y c (suc zero) low = refl
position_to sets y c (suc (suc position)) low = absurd (omega arith)

-- over the set to a member goes the link between the two points
link_to : (sets : List LinkSet) (y t : ℕ) (m : Option ℕ) → t < 16 → option_and_then (λ set. link_over set t) (set_to sets y m) ≡ option_and_then (λ z. link_between sets y z t) m
link_to sets y t None low = refl
link_to sets y t (Some z) low = go (set_between sets y z)
  where
    go : (o : Option LinkSet) → option_and_then (λ set. link_over set t) (option_map set_links o) ≡ option_and_then (λ set. option_map (λ slc. record { id = set.id; slc = slc }) (link_for set.links t)) o
    go None = refl
    go (Some set) = ap (option_map (λ slc. record { id = set.id; slc = slc })) (link_of_share set.links t low)

module _ (src : Source) (row : Row) (c : Choice) where
  abbrev used : List Bool
  used = is_some (member c 0) ∷ is_some (member c 1) ∷ []

  abbrev sets : List (Option SetLinks)
  sets = set_to src.sets row.point (member c 0) ∷ set_to src.sets row.point (member c 1) ∷ []

  link_same : (s : ℕ) → s < 16 → link_at (size_of row c.class) used sets s ≡ link_of src row c s
  link_same s low =
      ap (option_and_then (λ set. link_over set (share_of (size_of row c.class) s)))
      (position_to src.sets row.point c (via_of (size_of row c.class) (is_some (member c 0)) (is_some (member c 1)) s) (via_low (size_of row c.class) (is_some (member c 0)) (is_some (member c 1)) s))
      ∙ link_to src.sets row.point (share_of (size_of row c.class) s) _ (share_low (size_of row c.class) s low)

  -- the links by the sets to the members are the definition's
  pub links_same : links_at (size_of row c.class) used sets ≡ map (link_of src row c) (range_with_len 0 16)
  unfolding links_at
  links_same = map_same (link_at (size_of row c.class) used sets) (link_of src row c) (range_with_len 0 16) (λ k d low. link_same _ (within k d (omega (arith, low, length-range_with_len 0 16))))
    where
      within : (k d : ℕ) → k < 16 → get_or (range_with_len 0 16) k d < 16
      within k d low = omega (arith, get_or-range_with_len 0 16 k d low)

  -- the same, if each part is told apart
  pub links_made : (size : ℕ) (first_used second_used : Bool) (first second : Option SetLinks) → size ≡ size_of row c.class → first_used ≡ is_some (member c 0) → second_used ≡ is_some (member c 1)
      → first ≡ set_to src.sets row.point (member c 0) → second ≡ set_to src.sets row.point (member c 1)
      → links_at size (first_used ∷ second_used ∷ []) (first ∷ second ∷ []) ≡ map (link_of src row c) (range_with_len 0 16)
  links_made size first_used second_used first second a b d e f = rw (a, b, d, e, f) links_same
