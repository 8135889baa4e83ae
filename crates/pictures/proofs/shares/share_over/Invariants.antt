use Rattle.std.proofs.Common.{◌≡◌, ◌≤◌, map}
use Rattle.std.specs.List.{count_by, range_with_len}
use Rattle.profile.specs.Local.{is_at}
use Rattle.profile.specs.Whole.{carrier}
use Rattle.pictures.proofs.shares.share_over.Given as goal

abbrev pub invariant-loop-s : goal.invariant-loop-s
invariant-loop-s l = record {
  few : l.count ≤ l.s;
  counted : l.count ≡ count_by (is_at l.point) (map (carrier l.row l.choice) (range_with_len 0 l.s));
}
