use Rattle.std.proofs.Common.{◌≡◌, ℕ, List, ◌++◌, take, length, true}
use Rattle.net_sets.specs.Sets.{is_distinct}
use Rattle.plan_rows.specs.Seen.{IsSeen}
use Rattle.plan_rows.proofs.seen.see_all.Given as goal

abbrev pub invariant-loop-via : goal.invariant-loop-via
invariant-loop-via l = record {
  long : length l.seen ≡ 16384;
  seen : (done : List ℕ) → IsSeen l.initial.seen done → IsSeen l.seen (done ++ take l.via-index l.vias);
  apart : (done : List ℕ) → IsSeen l.initial.seen done → is_distinct done ≡ true → is_distinct (done ++ take l.via-index l.vias) ≡ true;
}
