use Rattle.std.proofs.Common.{◌≡◌, take, length, true}
use Rattle.net_items.specs.Lookups.{concat_vias}
use Rattle.net_sets.specs.Sets.{is_distinct}
use Rattle.plan_rows.specs.Seen.{IsSeen}
use Rattle.plan_rows.proofs.seen.are_vias_new.Given as goal

abbrev pub invariant-loop-vias : goal.invariant-loop-vias
invariant-loop-vias l = record {
  long : length l.seen ≡ 16384;
  seen : IsSeen l.seen (concat_vias (take l.vias-index l.row.classes));
  apart : is_distinct (concat_vias (take l.vias-index l.row.classes)) ≡ true;
}
