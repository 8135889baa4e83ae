use Rattle.std.proofs.Common.{◌≡◌, ◌<◌, ℕ, get_or, map, [], length}
use Rattle.route_choice.specs.Routes.{offered_in}
use Rattle.profile.specs.Status.{offer}
use Rattle.excerpts.specs.Excerpt.{source_of}
use Rattle.transfer_state.specs.Told.{far_by}
use Rattle.transfer_state.proofs.choosing.fars_of.Given as goal

-- the classes so far have what they are offered in their places
abbrev pub invariant-loop-i : goal.invariant-loop-i
invariant-loop-i l = record {
  four : length l.offers ≡ 4;
  each : (k : ℕ) → k < l.i → offered_in (get_or l.classes k []) (get_or l.offers k [])
      ≡ map (offer (source_of l.e) (far_by (source_of l.e) l.statuses) l.row.point) (get_or l.classes k []);
}
