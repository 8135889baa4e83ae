use Rattle.std.proofs.Common.{◌≡◌, ◌++◌, take, string_bytes}
use Rattle.std.specs.List.{flat_map}
use Rattle.net_sheets.specs.declared.about.Entry.TheVariants.{Rank}
use Rattle.net_sheets.specs.Tables.{line_text}
use Rattle.net_sheets.specs.About.{entry_record, plan_ranks}
use Rattle.net_sheets.proofs.writing.put_ranks.Given as goal

abbrev pub invariant-loop-place : goal.invariant-loop-place
invariant-loop-place l = string_bytes l.text ≡ string_bytes l.fn.text ++ flat_map (λ r. line_text (entry_record (Rank r))) (flat_map plan_ranks (take l.place l.plans))
