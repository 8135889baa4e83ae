use Rattle.std.proofs.Common.{◌≡◌, ◌<◌, ℕ, get_or, map, [], length}
use Rattle.route_choice.specs.Routes.{offered_in}
use Rattle.profile.specs.Status.{offer}
use Rattle.excerpts.specs.Excerpt.{source_of}
use Rattle.transfer_state.specs.Complaints.{far_from, heard_table}
use Rattle.transfer_state.proofs.hearing.fars_heard.Given as goal

-- the classes so far have what they are offered in their places
abbrev pub invariant-loop-i : goal.invariant-loop-i
invariant-loop-i l = record {
  four : length l.fars ≡ 4;
  each : (k : ℕ) → k < l.i → offered_in (get_or l.classes k []) (get_or l.fars k [])
      ≡ map (offer (source_of l.e) (far_from (source_of l.e) (heard_table (source_of l.e) l.heard) l.row.point) l.row.point) (get_or l.classes k []);
}
