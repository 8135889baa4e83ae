-- An answer as an object of JSON (own), by its values. docs/JSON.md has an example of each.
use Rattle.std.specs.Prelude.{ℕ, ◌==◌, ◌/◌, ◌%◌, true, if◌then◌else◌, List, [], ◌∷◌, ◌++◌, Option, Some, None, length, map, codes}
use Rattle.std.specs.List.{after_first, flat_map}
use Rattle.std.specs.Fmt.{digit_glyph}
use Rattle.json.specs.Json.{Json, null, boolean, string, array}
use Rattle.json.specs.Value.{items_of}
use Rattle.point_codes.specs.Codes.{code_text}
use Rattle.net_items.specs.declared.items.LinkSet.{LinkSet}
use Rattle.profile.specs.declared.hops.Hop.{Hop}
use Rattle.profile.specs.declared.hops.Trace.{Trace}
use Rattle.profile.specs.declared.tables.LinkRef.{LinkRef}
use Rattle.profile.specs.declared.tables.Message.{Message}
use Rattle.route_choice.specs.declared.choices.Choice.{Choice}
use Rattle.route_choice.specs.declared.choices.Far.{Far}
use Rattle.route_choice.specs.declared.choices.Far.TheVariants.{Allowed, Restricted, Prohibited}
use Rattle.transfer_state.specs.declared.complaints.Complaint.{Complaint}
use Rattle.what_if.specs.declared.changes.Change.{Change}
use Rattle.what_if.specs.declared.mending.SetLink.{SetLink}
use Rattle.what_if.specs.declared.reports.Report.{Report}
use Rattle.what_if.specs.declared.reroutes.Reroute.{Reroute}
use Rattle.what_if.specs.declared.reroutes.RerouteCounts.{RerouteCounts}
use Rattle.what_if.specs.Reroutes.{reroute_counts}
use Rattle.what_if.specs.declared.survey.Effect.{Effect}
use Rattle.what_if.specs.declared.survey.Single.{Single}
use Rattle.what_if.specs.declared.survey.Single.TheVariants as single
use Rattle.what_if.specs.declared.survey.Survey.{Survey}
use Rattle.what_if.specs.declared.warnings.Warning.{Warning}
use Rattle.what_if.specs.declared.warnings.Warning.TheVariants as warning
use Rattle.answers.specs.Audits.{clause_letter}
use Rattle.answers.specs.Messages.{message_kind_text}
use Rattle.answers.specs.Remedies.{command_text}
use Rattle.answers.specs.Status.{far_text}
use Rattle.answers.specs.Surveys.{surveyed_text}
use Rattle.answers.specs.Warnings.{warning_name}
use Rattle.answers.specs.declared.answer.Answer.{Answer}
use Rattle.answers.specs.declared.answer.Answer.TheVariants as answer
use Rattle.answers.specs.declared.answer.Moved.{Moved}
use Rattle.answers.specs.declared.answer.NetAnswer.{NetAnswer}
use Rattle.answers.specs.declared.answer.NetAnswer.TheVariants as net
use Rattle.answers.specs.declared.answer.Publication.{Publication}
use Rattle.answers.specs.declared.answer.Publication.TheVariants as publication
use Rattle.answers.specs.declared.taken.AllTaken.{AllTaken}
use Rattle.answers.specs.declared.answer.Reply.{Reply}
use Rattle.answers.specs.declared.answer.Reply.TheVariants as reply
use Rattle.answers.specs.declared.answer.RowAnswer.{RowAnswer}
use Rattle.answers.specs.declared.answer.RowAnswer.TheVariants as row
use Rattle.answers.specs.declared.remedies.Action.{Action}
use Rattle.answers.specs.declared.ways.Offer.{Offer}
use Rattle.answers.specs.declared.ways.Offer.TheVariants as offer
use Rattle.answers.specs.declared.ways.Way.{Way}
use Rattle.answers.specs.declared.who.SeatCount.{SeatCount}
use Rattle.json_answers.specs.Members.{Member, object_with}
use Rattle.json_answers.specs.Marked.{mend_members}
use Rattle.json_answers.specs.Refusals.{number_if, reason_members}
use Rattle.json_answers.specs.Shown.{code_if, set_members, shown_members, two_numbers}
use Rattle.json_answers.specs.Values.{code_member, list_member, members_text, number_member, numbered_members, text_member, word_member}

-- what the desk replies
abbrev pub reply_members : Reply → List Member
reply_members (reply.Taken n) = numbered_members (codes "taken") (codes "number") n
reply_members (reply.Again n) = numbered_members (codes "again") (codes "number") n
reply_members (reply.Opened opened) = word_member (codes "opened") ∷ number_member (codes "target") opened.target ∷ number_member (codes "waiting") opened.waiting ∷ []
reply_members (reply.Job version dest) = word_member (codes "job") ∷ number_member (codes "version") version ∷ code_member (codes "destination") dest ∷ []
reply_members reply.Given = word_member (codes "given") ∷ []
reply_members reply.Abandoned = word_member (codes "abandoned") ∷ []
reply_members (reply.Version n accepted) = word_member (codes "version") ∷ number_member (codes "published") n ∷ number_member (codes "accepted") accepted ∷ []
reply_members (reply.Last seq) = numbered_members (codes "last") (codes "sequence") seq
reply_members reply.Quit = word_member (codes "quit") ∷ []
reply_members (reply.Watch is_on) = word_member (codes "watch") ∷ text_member (codes "text") (if is_on then codes "on" else codes "off") ∷ []

-- all events of a whole set or point were accepted, under these numbers and those between
abbrev pub all_taken_members : AllTaken → List Member
all_taken_members taken = word_member (codes "taken") ∷ number_member (codes "first") taken.first ∷ number_member (codes "last") taken.last ∷ []

-- a seat, and how many events were accepted through it
abbrev pub seat_members : SeatCount → List Member
seat_members count = text_member (codes "name") count.name ∷ number_member (codes "events") count.events ∷ []

-- the same of each seat
abbrev pub who_members : List SeatCount → List Member
who_members list = word_member (codes "who") ∷ list_member (codes "seats") seat_members list ∷ []

-- a status, null if there is no row
abbrev pub status_value : Option Far → Json
status_value None = null
status_value (Some far) = string (far_text far)

-- a change: the point, the destination, and the status before and after
abbrev pub change_members : Change → List Member
change_members change =
    code_member (codes "point") change.point ∷ code_member (codes "destination") change.dest ∷ (codes "before", status_value change.before) ∷ (codes "after", status_value change.after) ∷ []

-- a point, none at a place without one
abbrev pub via_items : Option ℕ → List Json
via_items None = []
via_items (Some code) = string (code_text code) ∷ []

-- no class is used
abbrev pub unused_members : List Member
unused_members = text_member (codes "status") (codes "prohibited") ∷ (codes "class", null) ∷ (codes "by", array (items_of [])) ∷ []

-- a class is used: the status, the class and its vias
abbrev pub used_members : Choice → List Member
used_members c = text_member (codes "status") (far_text c.status) ∷ number_member (codes "class") c.class ∷ (codes "by", array (items_of (flat_map via_items c.members))) ∷ []

-- what a row uses
abbrev pub choice_members : Choice → List Member
choice_members c = if c.class == 0 then unused_members else used_members c

-- a choice, null if there is no row
abbrev pub choice_value : Option Choice → Json
choice_value None = null
choice_value (Some c) = object_with (choice_members c)

-- a point and a destination
abbrev pub row_of_members : ℕ → ℕ → List Member
row_of_members y x = code_member (codes "point") y ∷ code_member (codes "destination") x ∷ []

-- what is used before and after
abbrev pub side_members : Reroute → List Member
side_members r = (codes "before", choice_value r.before) ∷ (codes "after", choice_value r.after) ∷ []

-- what moves
abbrev pub reroute_members : Reroute → List Member
reroute_members r = row_of_members r.point r.dest ++ side_members r

-- how many are lost, regained and moved
abbrev pub move_counts : RerouteCounts → List Member
move_counts c = number_member (codes "lost") c.lost ∷ two_numbers (codes "regained") c.regained (codes "moved") c.moved

-- the same, and each of those that are told
abbrev pub told_members : RerouteCounts → List Reroute → List Member
told_members counts list = move_counts counts ++ list_member (codes "changes") reroute_members list ∷ []

-- how many of a list are of each kind, and each of it
abbrev pub move_members : List Reroute → List Member
move_members list = told_members (reroute_counts list) list

-- what moved, and since which version
abbrev pub moved_members : Moved → List Member
moved_members moved = (codes "since", number_if moved.since) ∷ told_members moved.counts moved.reroutes

-- the same with the number of the version that it leads to, behind a word
abbrev pub told_changes : List ℕ → ℕ → Moved → List Member
told_changes word n moved = numbered_members word (codes "published") n ++ moved_members moved

-- what was published; what that moved is an object of its own
abbrev pub publication_members : Publication → List Member
publication_members (publication.Published n moved) = numbered_members (codes "published") (codes "version") n
publication_members (publication.Synced n moved) = numbered_members (codes "synced") (codes "version") n
publication_members (publication.Changes n moved) = told_changes (codes "changes") n moved

-- a link, by its set and its signalling link code
abbrev pub link_members : LinkRef → List Member
link_members link = number_member (codes "set") link.id ∷ number_member (codes "link") link.slc ∷ []

-- the link of a signalling link selection, none if there is none
abbrev pub link_items : Option LinkRef → List Json
link_items None = []
link_items (Some link) = object_with (link_members link) ∷ []

-- the link of each signalling link selection, null for class 0
abbrev pub links_value : ℕ → List (Option LinkRef) → Json
links_value class links = if class == 0 then null else array (items_of (flat_map link_items links))

-- a message: its kind and its receiver
abbrev pub message_members : Message → List Member
message_members m = text_member (codes "message") (message_kind_text m.kind) ∷ code_member (codes "to") m.to ∷ []

-- an octet in two hexadecimal digits
abbrev pub octet_value : ℕ → Json
octet_value octet = string (digit_glyph true (octet / 16) ∷ digit_glyph true (octet % 16) ∷ [])

-- the octets of a message, null if there is none
abbrev pub octets_value : Option (List ℕ) → Json
octets_value None = null
octets_value (Some octets) = array (items_of (map octet_value octets))

-- the links that have to be restored, null if no restoring does it
abbrev pub mend_member : Option (List SetLink) → Member
mend_member None = (codes "links", null)
mend_member (Some links) = list_member (codes "links") mend_members links

-- the command of a change, and the point that makes it
abbrev pub command_members : Action → List Member
command_members a = text_member (codes "command") (command_text a) ∷ (codes "by", code_if a.by) ∷ []

-- a change: its link, its command, and the point that makes it
abbrev pub action_members : Action → List Member
action_members a = link_members (record { id = a.id; slc = a.slc }) ++ command_members a

-- the changes that restore links, null if no restoring does it
abbrev pub remedy_member : Option (List Action) → Member
remedy_member None = (codes "commands", null)
remedy_member (Some actions) = list_member (codes "commands") action_members actions

-- the reason of a way over a point that an available set reaches
abbrev pub offer_reason : Far → List ℕ
offer_reason Allowed = codes "ok"
offer_reason Restricted = codes "restricted"
offer_reason Prohibited = codes "prohibited"

-- a set that is down, and the status of the point beyond it
abbrev pub down_members : LinkSet → Far → List Member
down_members s far = set_members s ++ text_member (codes "far") (far_text far) ∷ []

-- the reason of a way: the status of the via, or the set that is down
abbrev pub offer_members : Offer → List Member
offer_members (offer.Far far) = text_member (codes "reason") (offer_reason far) ∷ []
offer_members (offer.Down set far) = text_member (codes "reason") (codes "down") ∷ down_members set far
offer_members offer.Unjoined = []

-- a way of a row: its class, the via, the reason, and whether it is used
abbrev pub way_members : Way → List Member
way_members way = number_member (codes "class") way.class ∷ code_member (codes "via") way.over ∷ (offer_members way.offer ++ (codes "used", boolean way.used) ∷ [])

-- the word of what is told of a row
abbrev pub row_word : RowAnswer → List ℕ
row_word (row.Status choice) = codes "status"
row_word (row.Links class links) = codes "sls"
row_word (row.Messages messages) = codes "messages"
row_word (row.Octets octets) = codes "octets"
row_word (row.Why far ways) = codes "why"
row_word (row.Mend links) = codes "mend"
row_word (row.Remedy actions) = codes "remedy"

-- what is told behind it
abbrev pub row_values : RowAnswer → List Member
row_values (row.Status choice) = choice_members choice
row_values (row.Links class links) = (codes "links", links_value class links) ∷ []
row_values (row.Messages messages) = list_member (codes "messages") message_members messages ∷ []
row_values (row.Octets octets) = (codes "octets", octets_value octets) ∷ []
row_values (row.Why far ways) = text_member (codes "status") (far_text far) ∷ list_member (codes "ways") way_members ways ∷ []
row_values (row.Mend links) = mend_member links ∷ []
row_values (row.Remedy actions) = remedy_member actions ∷ []

-- what is told of a row
abbrev pub row_members : RowAnswer → List Member
row_members r = word_member (row_word r) ∷ row_values r

-- a hop: its link, and the point that it reaches
abbrev pub hop_members : Hop → List Member
hop_members hop = link_members hop.link ++ code_member (codes "to") hop.to ∷ []

-- whether a trace reaches the destination, and its hops
abbrev pub traced_members : List ℕ → List Hop → List Member
traced_members end hops = text_member (codes "result") end ∷ list_member (codes "hops") hop_members hops ∷ []

-- where a signalling link selection leads: no hops if it is nowhere
abbrev pub trace_members : Trace → List Member
trace_members (Trace.Reached hops) = traced_members (codes "reached") hops
trace_members Trace.Stopped = traced_members (codes "stopped") []

-- what events would change
abbrev pub report_members : Report → List Member
report_members report =
    text_member (codes "result") (if report.denied then codes "denied" else codes "granted") ∷ list_member (codes "changes") change_members report.changes ∷ []

-- the set or the point that fails or is restored
abbrev pub single_member : Single → Member
single_member (single.SetFails id) = number_member (codes "set") id
single_member (single.PointFails code) = code_member (codes "point") code
single_member (single.SetRestored id) = number_member (codes "set") id

-- what has an effect, and on how many pairs
abbrev pub effect_members : Effect → List Member
effect_members effect = single_member effect.single ∷ number_member (codes "pairs") effect.pairs ∷ []

-- what is surveyed, how much was tried, and what has an effect
abbrev pub survey_members : Survey → List Member
survey_members survey =
    text_member (codes "surveyed") (surveyed_text survey.surveyed) ∷ number_member (codes "tried") survey.tried ∷ list_member (codes "effects") effect_members survey.effects ∷ []

-- a point and a destination
abbrev pub towards_members : ℕ → ℕ → List Member
towards_members y x = code_member (codes "point") y ∷ code_member (codes "destination") x ∷ []

-- what a warning is about
abbrev pub warned_values : Warning → List Member
warned_values (warning.MissingRow y x) = towards_members y x
warned_values (warning.MissingPlan m x) = towards_members m x
warned_values (warning.Unreached p) = code_member (codes "point") p ∷ []
warned_values (warning.Unnamed p) = code_member (codes "point") p ∷ []
warned_values (warning.Unused id) = number_member (codes "set") id ∷ []
warned_values (warning.SetFails id pairs) = number_member (codes "set") id ∷ number_member (codes "pairs") pairs ∷ []
warned_values (warning.PointFails code pairs) = code_member (codes "point") code ∷ number_member (codes "pairs") pairs ∷ []

-- a warning: its kind, and what it is about
abbrev pub warning_members : Warning → List Member
warning_members w = text_member (codes "kind") (warning_name w) ∷ warned_values w

-- how many warnings there are, and each
abbrev pub warnings_members : List Warning → List Member
warnings_members warnings = number_member (codes "count") (length warnings) ∷ list_member (codes "warnings") warning_members warnings ∷ []

-- a wrong table: its destination, and the point and the letter of the first complaint
abbrev pub complaint_members : ℕ → Complaint → List Member
complaint_members dest complaint =
    code_member (codes "destination") dest ∷ code_member (codes "point") complaint.point ∷ text_member (codes "complaint") (clause_letter complaint.clause) ∷ []

-- the word of what is told of the whole network
abbrev pub net_word : NetAnswer → List ℕ
net_word (net.Trace trace) = codes "trace"
net_word (net.WhatIf report) = codes "whatif"
net_word (net.Reroutes list) = codes "reroutes"
net_word (net.Survey survey) = codes "survey"
net_word (net.Warned warnings) = codes "warn"
net_word (net.Right count) = codes "audit"
net_word (net.Wrong dest complaint) = codes "audit"
net_word (net.Picture file picture) = codes "picture"
net_word (net.Drawn file) = codes "picture"
net_word (net.Saving file network) = codes "saved"
net_word (net.Saved file) = codes "saved"

-- what is told behind it
abbrev pub net_values : NetAnswer → List Member
net_values (net.Trace trace) = trace_members trace
net_values (net.WhatIf report) = report_members report
net_values (net.Reroutes list) = move_members list
net_values (net.Survey survey) = survey_members survey
net_values (net.Warned warnings) = warnings_members warnings
net_values (net.Right count) = text_member (codes "result") (codes "ok") ∷ number_member (codes "plans") count ∷ []
net_values (net.Wrong dest complaint) = text_member (codes "result") (codes "bad") ∷ complaint_members dest complaint
net_values (net.Picture file picture) = text_member (codes "file") file ∷ []
net_values (net.Drawn file) = text_member (codes "file") file ∷ []
net_values (net.Saving file network) = text_member (codes "file") file ∷ []
net_values (net.Saved file) = text_member (codes "file") file ∷ []

-- what is told of the whole network
abbrev pub net_members : NetAnswer → List Member
net_members n = word_member (net_word n) ∷ net_values n

-- what `help` tells, without the word itself
abbrev pub help_members : List ℕ → List Member
help_members text = word_member (codes "help") ∷ text_member (codes "text") (after_first (λ b. b == 32) text) ∷ []

-- the members of an answer's object
abbrev pub answer_members : Answer → List Member
answer_members (answer.Reply r) = reply_members r
answer_members (answer.AllTaken taken) = all_taken_members taken
answer_members (answer.Publication p) = publication_members p
answer_members (answer.Row r) = row_members r
answer_members (answer.Net n) = net_members n
answer_members (answer.Shown what) = shown_members what
answer_members (answer.Who list) = who_members list
answer_members (answer.Help text) = help_members text
answer_members (answer.Refused why) = reason_members why

-- the object of an answer
abbrev pub answer_object : Answer → Json
answer_object a = object_with (answer_members a)

-- its text
abbrev pub object_text : Answer → List ℕ
object_text a = members_text (answer_members a)
