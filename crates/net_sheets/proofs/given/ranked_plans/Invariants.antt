use Rattle.std.proofs.Common.{◌≡◌, ◌++◌, map, take}
use Rattle.net_sheets.specs.About.{ranks_of}
use Rattle.net_sheets.specs.Events.{unranked}
use Rattle.net_sheets.proofs.given.ranked_plans.Given as goal

-- what was given and what is left to give are all ranks
abbrev pub invariant-loop-position : goal.invariant-loop-position
invariant-loop-position l = record {
  same : map unranked l.ranked.items ≡ map unranked (take l.position l.plans);
  told : ranks_of l.ranked.items ++ l.rest ≡ l.ranks;
}
