use Rattle.std.proofs.Common.{◌≡◌, ◌++◌, take, string_bytes}
use Rattle.std.specs.List.{flat_map}
use Rattle.net_sheets.specs.declared.about.Entry.TheVariants.{Bare}
use Rattle.net_sheets.specs.Tables.{line_text}
use Rattle.net_sheets.specs.About.{entry_record, bare_dest}
use Rattle.net_sheets.proofs.writing.put_all_bare.Given as goal

abbrev pub invariant-loop-place : goal.invariant-loop-place
invariant-loop-place l = string_bytes l.text ≡ string_bytes l.fn.text ++ flat_map (λ dest. line_text (entry_record (Bare dest))) (flat_map bare_dest (take l.place l.plans))
