-- How what events would change is answered.
use Rattle.std.specs.Prelude.{ℕ, List, ◌∷◌, ◌++◌, Option, Some, None, Result, Ok, Err, if◌then◌else◌, codes}
use Rattle.std.specs.List.{flat_map}
use Rattle.point_codes.specs.Codes.{code_text}
use Rattle.route_choice.specs.declared.choices.Far.{Far}
use Rattle.what_if.specs.declared.changes.Change.{Change}
use Rattle.what_if.specs.declared.reports.Refused.{Refused}
use Rattle.what_if.specs.declared.reports.Report.{Report}
use Rattle.answers.specs.Status.{far_text}
use Rattle.answers.specs.declared.answer.Answer.{Answer}
use Rattle.answers.specs.declared.answer.Answer.TheVariants as answer
use Rattle.answers.specs.declared.answer.NetAnswer.TheVariants as net
use Rattle.answers.specs.declared.answer.Reason.TheVariants as reason

-- a status, `none` if there is no row
abbrev pub status_word : Option Far → List ℕ
status_word None = codes "none"
status_word (Some f) = far_text f

-- a change after a space, `Y/X before>after`
abbrev pub change_text : Change → List ℕ
change_text change =
    32 ∷ (code_text change.point ++ 47 ∷ (code_text change.dest ++ 32 ∷ (status_word change.before ++ 62 ∷ status_word change.after)))

-- `whatif granted` or `whatif denied`, and the changes
abbrev pub report_text : Report → List ℕ
report_text report = (if report.denied then codes "whatif denied" else codes "whatif granted") ++ flat_map change_text report.changes

-- the report, or the refusal and its place
abbrev pub what_if_answer : Result Report Refused → Answer
what_if_answer (Ok report) = answer.Net (net.WhatIf report)
what_if_answer (Err refused) = answer.Refused (reason.Event refused)
