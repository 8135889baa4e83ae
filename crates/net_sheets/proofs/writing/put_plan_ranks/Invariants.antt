use Rattle.std.proofs.Common.{◌≡◌, ◌++◌, map, take, string_bytes}
use Rattle.std.specs.List.{flat_map}
use Rattle.net_sheets.specs.declared.about.Entry.TheVariants.{Rank}
use Rattle.net_sheets.specs.Tables.{line_text}
use Rattle.net_sheets.specs.About.{entry_record}
use Rattle.plan_ranks.specs.Given.{row_rank}
use Rattle.net_sheets.proofs.writing.put_plan_ranks.Given as goal

abbrev pub invariant-loop-row : goal.invariant-loop-row
invariant-loop-row l = string_bytes l.text ≡ string_bytes l.fn.text ++ flat_map (λ r. line_text (entry_record (Rank r))) (map (row_rank l.plan.dest) (take l.row-index l.plan.rows))
