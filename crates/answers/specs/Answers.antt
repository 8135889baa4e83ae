-- How an answer is told in text (own).
use Rattle.std.specs.Prelude.{ℕ, if◌then◌else◌, List, [], ◌∷◌, ◌++◌, Option, Some, None, codes}
use Rattle.std.specs.Fmt.{decimal}
use Rattle.point_codes.specs.Codes.{code_text}
use Rattle.net_data.specs.declared.events.Refusal.TheVariants as refusal
use Rattle.answers.specs.Audits.{audit_right, audit_wrong}
use Rattle.answers.specs.DeskRefusals.{desk_name, desk_values}
use Rattle.answers.specs.Links.{links_text}
use Rattle.answers.specs.Mend.{mend_text}
use Rattle.answers.specs.Messages.{messages_text, octets_text}
use Rattle.answers.specs.Remedies.{remedy_text}
use Rattle.answers.specs.Reroutes.{moved_text, reroutes_text}
use Rattle.answers.specs.Shown.{shown_text}
use Rattle.answers.specs.Status.{status_text}
use Rattle.answers.specs.Surveys.{survey_text}
use Rattle.answers.specs.Traces.{trace_text}
use Rattle.answers.specs.Refusals.{refusal_name, refusal_values}
use Rattle.answers.specs.Warnings.{warnings_text}
use Rattle.answers.specs.WhatIfs.{report_text}
use Rattle.answers.specs.Who.{who_text}
use Rattle.answers.specs.Why.{why_text}
use Rattle.answers.specs.declared.answer.Answer.{Answer}
use Rattle.answers.specs.declared.answer.Answer.TheVariants as answer
use Rattle.answers.specs.declared.answer.Moved.{Moved}
use Rattle.answers.specs.declared.taken.AllTaken.{AllTaken}
use Rattle.answers.specs.declared.answer.NetAnswer.{NetAnswer}
use Rattle.answers.specs.declared.answer.NetAnswer.TheVariants as net
use Rattle.answers.specs.declared.answer.Publication.{Publication}
use Rattle.answers.specs.declared.answer.Publication.TheVariants as publication
use Rattle.answers.specs.declared.answer.Reason.{Reason}
use Rattle.answers.specs.declared.answer.Reason.TheVariants as reason
use Rattle.answers.specs.declared.answer.Reply.{Reply}
use Rattle.answers.specs.declared.answer.Reply.TheVariants as reply
use Rattle.answers.specs.declared.answer.RowAnswer.{RowAnswer}
use Rattle.answers.specs.declared.answer.RowAnswer.TheVariants as row

-- the number and the name of why a line is refused
abbrev pub reason_name : Reason → List ℕ
reason_name (reason.Desk refusal) = desk_name refusal
reason_name (reason.Event refused) = refusal_name refused.refusal
reason_name reason.NoPlan = refusal_name refusal.NoPlan
reason_name reason.NoRow = codes "29 NoRow"
reason_name reason.NotKept = codes "53 NotKept"
reason_name reason.BadLine = codes "62 BadLine"
reason_name reason.Write = codes "64 Write"

-- its values, each after a space; of an event of a what-if its place too
abbrev pub reason_values : Reason → List ℕ
reason_values (reason.Desk refusal) = desk_values refusal
reason_values (reason.Event refused) = refusal_values refused.refusal ++ (codes " at " ++ decimal refused.place)
reason_values why = []

-- `refused NUMBER NAME VALUES`: why a line is refused
abbrev pub reason_text : Reason → List ℕ
reason_text why = codes "refused " ++ (reason_name why ++ reason_values why)

-- what the desk replies
abbrev pub reply_text : Reply → List ℕ
reply_text (reply.Taken number) = codes "taken " ++ decimal number
reply_text (reply.Again number) = codes "again " ++ decimal number
reply_text (reply.Opened opened) = codes "opened " ++ (decimal opened.target ++ (codes " waiting " ++ decimal opened.waiting))
reply_text (reply.Job version dest) = codes "job " ++ (decimal version ++ 32 ∷ code_text dest)
reply_text reply.Given = codes "given"
reply_text reply.Abandoned = codes "abandoned"
reply_text (reply.Version number accepted) = codes "version " ++ (decimal number ++ (codes " accepted " ++ decimal accepted))
reply_text (reply.Watch is_on) = if is_on then codes "watch on" else codes "watch off"
reply_text (reply.Last seq) = codes "last " ++ decimal seq
reply_text reply.Quit = codes "quit"

-- `taken FIRST to LAST`: all events of a whole set or point were accepted, under these numbers and those between
abbrev pub all_taken_text : AllTaken → List ℕ
all_taken_text taken = codes "taken " ++ (decimal taken.first ++ (codes " to " ++ decimal taken.last))

-- `changes P since N lost L regained R moved M`, and each of those that are told
abbrev pub changes_text : ℕ → Moved → List ℕ
changes_text number moved = codes "changes " ++ (decimal number ++ moved_text moved)

-- what a publication moved, on a line of its own, behind `*`; nothing if that isn't told
abbrev pub notice_text : ℕ → Option Moved → List ℕ
notice_text number None = []
notice_text number (Some moved) = 10 ∷ 42 ∷ changes_text number moved

-- `published N`, `synced N` or `changes P`
abbrev pub publication_text : Publication → List ℕ
publication_text (publication.Published number moved) = codes "published " ++ (decimal number ++ notice_text number moved)
publication_text (publication.Synced number moved) = codes "synced " ++ (decimal number ++ notice_text number moved)
publication_text (publication.Changes number moved) = changes_text number moved

-- what is told of a row
abbrev pub row_text : RowAnswer → List ℕ
row_text (row.Status choice) = status_text choice
row_text (row.Links class links) = links_text class links
row_text (row.Messages messages) = messages_text messages
row_text (row.Octets octets) = octets_text octets
row_text (row.Why far ways) = why_text far ways
row_text (row.Mend mend) = mend_text mend
row_text (row.Remedy remedy) = remedy_text remedy

-- what is told of the whole network
abbrev pub net_text : NetAnswer → List ℕ
net_text (net.Trace trace) = trace_text trace
net_text (net.WhatIf report) = report_text report
net_text (net.Reroutes list) = codes "reroutes" ++ reroutes_text list
net_text (net.Survey survey) = survey_text survey
net_text (net.Warned warnings) = warnings_text warnings
net_text (net.Right count) = audit_right count
net_text (net.Wrong dest complaint) = audit_wrong dest complaint
net_text (net.Picture file picture) = codes "picture " ++ file
net_text (net.Drawn file) = codes "picture " ++ file
net_text (net.Saving file network) = codes "saved " ++ file
net_text (net.Saved file) = codes "saved " ++ file

-- an answer, without the line feed that ends it
abbrev pub answer_text : Answer → List ℕ
answer_text (answer.Reply r) = reply_text r
answer_text (answer.AllTaken taken) = all_taken_text taken
answer_text (answer.Publication p) = publication_text p
answer_text (answer.Row r) = row_text r
answer_text (answer.Net n) = net_text n
answer_text (answer.Shown what) = shown_text what
answer_text (answer.Who list) = who_text list
answer_text (answer.Help text) = text
answer_text (answer.Refused why) = reason_text why

-- an answer as it is printed: in text, ended by a line feed
abbrev pub printed : Answer → List ℕ
printed a = answer_text a ++ 10 ∷ []
