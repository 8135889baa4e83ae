-- What moves from a network to another (own, after Q.704 clauses 6 and 7).
use Rattle.std.specs.Prelude.{◌≡◌, ◌≢◌, ◌<◌, ℕ, ◌==◌, ◌&&◌, not, nat_eq, Bool, List, [], ◌∷◌, Option, Result, Ok, Err, All, length, filter, if◌then◌else◌, ◌⊎◌}
use Rattle.std.specs.List.{AllPairs, Contains}
use Rattle.std.specs.Option.{option_eq, option_map}
use Rattle.std.specs.Cmp.Lexicographic.{pointwise}
use Rattle.net_data.specs.declared.events.Event.{Event}
use Rattle.net_data.specs.Network.{Network}
use Rattle.route_choice.specs.declared.choices.Choice.{Choice}
use Rattle.route_choice.specs.Routes.{same_far}
use Rattle.excerpts.specs.Excerpt.{ExcerptValue, excerpt_at}
use Rattle.what_if.specs.declared.reports.Refused.{Refused}
use Rattle.what_if.specs.declared.reroutes.Reroute.{Reroute}
use Rattle.what_if.specs.declared.reroutes.RerouteCounts.{RerouteCounts}
use Rattle.what_if.specs.Reports.{apply_from, choice_of, each_dest, each_point, is_usable, no_memory}

-- two choices are of the same class, members and status
abbrev pub same_choice : Choice → Choice → Bool
same_choice c d = c.class == d.class && pointwise (option_eq nat_eq) c.members d.members && same_far c.status d.status

-- whether two points have the same choice, or none
abbrev pub is_same_choice : Option Choice → Option Choice → Bool
is_same_choice = option_eq same_choice

-- what a point uses towards a destination before and after
abbrev pub reroute_of : Option ExcerptValue → Option ExcerptValue → ℕ → ℕ → Reroute
reroute_of old new x y = record { point = y; dest = x; before = choice_of old y; after = choice_of new y }

-- the reroute of a point towards a destination, where its choice before and after differs
abbrev pub reroute_between : Option ExcerptValue → Option ExcerptValue → ℕ → ℕ → List Reroute
reroute_between old new x y = if is_same_choice (choice_of old y) (choice_of new y) then [] else reroute_of old new x y ∷ []

-- the reroutes towards a destination
abbrev pub reroutes_between : Option ExcerptValue → Option ExcerptValue → ℕ → List Reroute
reroutes_between = each_point reroute_between

-- the reroutes from a network to another
abbrev pub reroutes : Network → Network → List Reroute
reroutes = each_dest reroute_between

-- what of them events make, where they make this network, or the refusal
abbrev pub rerouted_to : Network → Result Network Refused → Result (List Reroute) Refused
rerouted_to old (Ok new) = Ok (reroutes old new)
rerouted_to old (Err refused) = Err refused

-- what the events move, made one after the other on the network
abbrev pub rerouted : Network → List Event → Result (List Reroute) Refused
rerouted net events = rerouted_to net (apply_from 1 net events)

-- the answer: the reroutes or the refusal; out of memory may be told in the place of either
abbrev pub IsRerouted : Network → List Event → Result (List Reroute) Refused → Type 0
IsRerouted net events result = (result ≡ rerouted net events) ⊎ (result ≡ Err no_memory)

-- ---- of which kind they are

-- a choice that isn't prohibited
abbrev pub has_route : Option Choice → Bool
has_route c = is_usable (option_map (λ (c : Choice). c.status) c)

-- the point loses the destination
abbrev pub is_lost : Reroute → Bool
is_lost r = has_route r.before && not (has_route r.after)

-- the point regains it
abbrev pub is_regained : Reroute → Bool
is_regained r = not (has_route r.before) && has_route r.after

-- neither: it uses something else
abbrev pub is_only_moved : Reroute → Bool
is_only_moved r = not (is_lost r) && not (is_regained r)

-- how many there are of each kind
abbrev pub reroute_counts : List Reroute → RerouteCounts
reroute_counts list = record {
  lost = length (filter is_lost list);
  regained = length (filter is_regained list);
  moved = length (filter is_only_moved list);
}

-- ---- which they are

-- it tells what a point uses before and after, and that differs
pub record IsMove (old new : Network) (r : Reroute) : Type 0 where
  pub before : r.before ≡ choice_of (excerpt_at old r.dest) r.point
  pub after : r.after ≡ choice_of (excerpt_at new r.dest) r.point
  pub differ : r.before ≢ r.after

-- of a lower destination; or of the same one, and a lower point
abbrev pub ComesBefore : Reroute → Reroute → Type 0
ComesBefore r s = (r.dest < s.dest) ⊎ ((r.dest ≡ s.dest) × (r.point < s.point))

-- the list has each point and destination whose choice differs, and no other, in order
pub record IsEachMove (old new : Network) (list : List Reroute) : Type 0 where
  pub sound : All (IsMove old new) list
  pub complete : (x y : ℕ) → choice_of (excerpt_at old x) y ≢ choice_of (excerpt_at new x) y → Contains list (reroute_of (excerpt_at old x) (excerpt_at new x) x y)
  pub rising : AllPairs ComesBefore list
