-- What a command that asks is answered from a version (own).
use Rattle.std.specs.Prelude.{Bool, true, false, length}
use Rattle.net_versions.specs.Versions.{VersionValue}
use Rattle.path_trace.specs.Traces.{trace_at}
use Rattle.what_if.specs.Listed.{report_listed, reroutes_listed}
use Rattle.what_if.specs.Survey.{survey_listed}
use Rattle.what_if.specs.Warnings.{warnings_of}
use Rattle.answers.specs.Audits.{audit_answer}
use Rattle.answers.specs.Reroutes.{reroutes_answer}
use Rattle.answers.specs.Rows.{answer_about}
use Rattle.answers.specs.Shown.{shown_answer}
use Rattle.answers.specs.Surveys.{survey_answer}
use Rattle.answers.specs.Traces.{trace_answer}
use Rattle.answers.specs.Warnings.{warn_answer}
use Rattle.answers.specs.WhatIfs.{what_if_answer}
use Rattle.answers.specs.declared.answer.Answer.{Answer}
use Rattle.answers.specs.declared.answer.Answer.TheVariants as answer
use Rattle.answers.specs.declared.answer.Reason.TheVariants as reason
use Rattle.script_words.specs.declared.commands.Command.{Command}
use Rattle.script_words.specs.declared.commands.Command.TheVariants as command
use Rattle.desk_console.specs.Pictures.{picture_told}

-- whether a command asks something of the published version
abbrev pub is_asked : Command → Bool
is_asked (command.About asked y x) = true
is_asked (command.Trace y x s) = true
is_asked (command.WhatIf events) = true
is_asked (command.Reroutes events) = true
is_asked (command.Survey what events) = true
is_asked command.Warn = true
is_asked command.Audit = true
is_asked (command.Picture file about) = true
is_asked (command.Show what) = true
is_asked _ = false

-- its answer; one that asks nothing is no question
abbrev pub asked_answer : Command → VersionValue → Answer
-- `status Y X`, `sls Y X`, `messages Y X`, `octets Y Z X`, `why Y X`, `mend Y X`, `remedy Y X`, `mend allowed Y X` and `remedy allowed Y X`
asked_answer (command.About asked y x) version = answer_about asked version.network y x
-- `trace Y X S`
asked_answer (command.Trace y x s) version = trace_answer (trace_at version.network y x s)
-- `whatif EVENT ; EVENT ..`
asked_answer (command.WhatIf events) version = what_if_answer (report_listed version.network events)
-- `reroutes EVENT ; EVENT ..`
asked_answer (command.Reroutes events) version = reroutes_answer (reroutes_listed version.network events)
-- `survey sets`, `survey points` and `survey down`, and events after them
asked_answer (command.Survey what events) version = survey_answer (survey_listed what version.network events)
-- `warn`
asked_answer command.Warn version = warn_answer (warnings_of version.network)
-- `audit`
asked_answer command.Audit version = audit_answer (length version.network.plans)
-- `picture FILE` and `picture FILE X`
asked_answer (command.Picture file about) version = picture_told file version.network about version.number
-- `show`, `show down`, `show set ID`, `show point CODE`, `show plan X` and `statuses X`
asked_answer (command.Show what) version = shown_answer what version.network
asked_answer _ version = answer.Refused reason.BadLine
