-- The text of an answer's object reads as that object: it isn't deep.
use Rattle.std.proofs.Common.{◌≡◌, ◌∙◌, ℕ, suc, ◌≤◌, ◌==◌, Bool, true, false, if◌then◌else◌, List, [], ◌∷◌, ◌++◌, map, flat_map, Option, Some, None, option_and_then, codes, sym, ap, append-nil, arith}
use Rattle.std.specs.List.{AllByRecursion}
use Rattle.json.specs.Json.{Json, array, value, if_last, max_depth, document}
use Rattle.json.specs.Lex.{tokens}
use Rattle.json.specs.Tree.{json_tokens, depth, items_depth, members_depth}
use Rattle.json.specs.Value.{items_of}
use Rattle.json.proofs.Printed.Trees.{value-json_tokens}
use Rattle.profile.specs.declared.hops.Hop.{Hop}
use Rattle.profile.specs.declared.hops.Trace.{Trace}
use Rattle.profile.specs.declared.tables.LinkRef.{LinkRef}
use Rattle.route_choice.specs.declared.choices.Choice.{Choice}
use Rattle.route_choice.specs.declared.choices.Far.{Far}
use Rattle.what_if.specs.declared.changes.Change.{Change}
use Rattle.what_if.specs.declared.reroutes.Reroute.{Reroute}
use Rattle.what_if.specs.declared.reroutes.RerouteCounts.{RerouteCounts}
use Rattle.what_if.specs.declared.survey.Effect.{Effect}
use Rattle.what_if.specs.declared.survey.Single.{Single}
use Rattle.what_if.specs.declared.survey.Single.TheVariants as single
use Rattle.what_if.specs.declared.warnings.Warning.{Warning}
use Rattle.what_if.specs.declared.warnings.Warning.TheVariants as warning
use Rattle.what_if.specs.Reroutes.{reroute_counts}
use Rattle.what_if.specs.declared.mending.SetLink.{SetLink}
use Rattle.answers.specs.declared.answer.Answer.{Answer}
use Rattle.answers.specs.declared.answer.Answer.TheVariants as answer
use Rattle.answers.specs.declared.answer.NetAnswer.{NetAnswer}
use Rattle.answers.specs.declared.answer.NetAnswer.TheVariants as net
use Rattle.answers.specs.declared.answer.Publication.{Publication}
use Rattle.answers.specs.declared.answer.Publication.TheVariants as publication
use Rattle.answers.specs.declared.answer.Reason.{Reason}
use Rattle.answers.specs.declared.answer.Reason.TheVariants as reason
use Rattle.answers.specs.declared.answer.Reply.{Reply}
use Rattle.answers.specs.declared.answer.Reply.TheVariants as reply
use Rattle.answers.specs.declared.answer.RowAnswer.{RowAnswer}
use Rattle.answers.specs.declared.answer.RowAnswer.TheVariants as row
use Rattle.answers.specs.declared.remedies.Action.{Action}
use Rattle.answers.specs.declared.ways.Offer.{Offer}
use Rattle.answers.specs.declared.ways.Offer.TheVariants as offer
use Rattle.answers.specs.declared.ways.Way.{Way}
use Rattle.net_data.specs.declared.events.Refusal.{Refusal}
use Rattle.net_data.specs.declared.events.Refusal.TheVariants as edit
use Rattle.work_units.specs.declared.replies.Refusal.{Refusal as DeskRefusal}
use Rattle.work_units.specs.declared.replies.Refusal.TheVariants as desk
use Rattle.json_answers.specs.Members.{Member, object_members, object_with}
use Rattle.json_answers.specs.Values.{list_member}
use Rattle.answers.specs.declared.shown.Shown.{Shown}
use Rattle.answers.specs.declared.shown.Shown.TheVariants as shown
use Rattle.net_items.specs.declared.items.LinkSet.{LinkSet}
use Rattle.net_items.specs.declared.items.Point.{Point}
use Rattle.json_answers.specs.Shown.{code_if, id_value, point_members, point_status_members, set_members, shown_members}
use Rattle.json_answers.specs.Refusals.{desk_members, edit_values, number_if, value_members}
use Rattle.json_answers.specs.Objects.{action_members, answer_members, answer_object, change_members, choice_members, choice_value, effect_members, hop_members, link_items, link_members, links_value, mend_member, message_members, net_values, octet_value, octets_value, offer_members, publication_members, remedy_member, reply_members, reroute_members, row_values, seat_members, single_member, status_value, told_members, trace_members, unused_members, used_members, via_items, warned_values, warning_members, way_members}
use Rattle.json_answers.specs.Marked.{marked_value, mend_members}

-- no value of these members is deeper than this
abbrev AreShallow : ℕ → List Member → Type 0
AreShallow n ms = AllByRecursion (λ (m : Member). depth m.1 ≤ n) ms

-- a text, a number, a boolean and null have no depth
flat : (n : ℕ) → 0 ≤ n
flat n = omega arith

both : {A : Type 0} (P : A → Type 0) (a b : List A) → AllByRecursion P a → AllByRecursion P b → AllByRecursion P (a ++ b)
both P [] b p q = q
both P (x ∷ a) b p q = (p.0, both P a b p.1 q)

either : {A : Type 0} (P : A → Type 0) (c : Bool) (a b : A) → P a → P b → P (if c then a else b)
either P true a b p q = p
either P false a b p q = q

object_shallow : (n : ℕ) (ms : List Member) → AreShallow n ms → depth (object_with ms) ≤ suc n
object_shallow n ms h = let d = inner ms h in omega arith
  where
    inner : (ms : List Member) → AreShallow n ms → members_depth (object_members ms) ≤ n
    inner [] h = omega arith
    inner (m ∷ ms) h = let d = h.0 in let more = inner ms h.1 in omega arith

array_shallow : (n : ℕ) (items : List Json) → AllByRecursion (λ j. depth j ≤ n) items → depth (array (items_of items)) ≤ suc n
array_shallow n items h = let d = inner items h in omega arith
  where
    inner : (items : List Json) → AllByRecursion (λ j. depth j ≤ n) items → items_depth (items_of items) ≤ n
    inner [] h = omega arith
    inner (j ∷ items) h = let d = h.0 in let more = inner items h.1 in omega arith

mapped : {A : Type 0} (n : ℕ) (f : A → Json) → ((x : A) → depth (f x) ≤ n) → (xs : List A) → depth (array (items_of (map f xs))) ≤ suc n
mapped {A} n f each xs = array_shallow n (map f xs) (inner xs)
  where
    inner : (xs : List A) → AllByRecursion (λ j. depth j ≤ n) (map f xs)
    inner [] = tt
    inner (x ∷ xs) = (each x, inner xs)

flat_mapped : {A : Type 0} (n : ℕ) (f : A → List Json) → ((x : A) → AllByRecursion (λ j. depth j ≤ n) (f x)) → (xs : List A) → depth (array (items_of (flat_map f xs))) ≤ suc n
flat_mapped {A} n f each xs = array_shallow n (flat_map f xs) (inner xs)
  where
    inner : (xs : List A) → AllByRecursion (λ j. depth j ≤ n) (flat_map f xs)
    inner [] = tt
    inner (x ∷ xs) = both (λ j. depth j ≤ n) (f x) (flat_map f xs) (each x) (inner xs)

-- a list of objects, none of which has a value that is deeper than 2
listed : {A : Type 0} (f : A → List Member) → ((x : A) → AreShallow 2 (f x)) → (xs : List A) → depth (array (items_of (map (λ x. object_with (f x)) xs))) ≤ 4
listed f each xs = mapped 3 (λ x. object_with (f x)) (λ x. object_shallow 2 (f x) (each x)) xs

-- ---- what is listed

status_shallow : (o : Option Far) → depth (status_value o) ≤ 2
status_shallow None = flat 2
status_shallow (Some far) = flat 2

change_shallow : (change : Change) → AreShallow 2 (change_members change)
change_shallow change = (flat 2, (flat 2, (status_shallow change.before, (status_shallow change.after, tt))))

choice_shallow : (c : Choice) → AreShallow 1 (choice_members c)
choice_shallow c =
    either (AreShallow 1) (c.class == 0) unused_members (used_members c) (flat 1, (flat 1, (flat_mapped 0 via_items (λ o. via_flat o) [], tt))) (flat 1, (flat 1, (flat_mapped 0 via_items via_flat c.members, tt)))
  where
    via_flat : (o : Option ℕ) → AllByRecursion (λ j. depth j ≤ 0) (via_items o)
    via_flat None = tt
    via_flat (Some code) = (flat 0, tt)

side_shallow : (o : Option Choice) → depth (choice_value o) ≤ 2
side_shallow None = flat 2
side_shallow (Some c) = object_shallow 1 (choice_members c) (choice_shallow c)

reroute_shallow : (r : Reroute) → AreShallow 2 (reroute_members r)
reroute_shallow r = (flat 2, (flat 2, (side_shallow r.before, (side_shallow r.after, tt))))

reroutes_shallow : (list : List Reroute) → depth (list_member (codes "changes") reroute_members list).1 ≤ 4
reroutes_shallow list = listed reroute_members reroute_shallow list

moves_shallow : (counts : RerouteCounts) (list : List Reroute) → AreShallow 4 (told_members counts list)
moves_shallow counts list = (flat 4, (flat 4, (flat 4, (reroutes_shallow list, tt))))

single_shallow : (s : Single) → depth (single_member s).1 ≤ 2
single_shallow (single.SetFails id) = flat 2
single_shallow (single.PointFails code) = flat 2
single_shallow (single.SetRestored id) = flat 2

effect_shallow : (effect : Effect) → AreShallow 2 (effect_members effect)
effect_shallow effect = (single_shallow effect.single, (flat 2, tt))

warned_shallow : (w : Warning) → AreShallow 2 (warned_values w)
warned_shallow (warning.MissingRow y x) = (flat 2, (flat 2, tt))
warned_shallow (warning.MissingPlan m x) = (flat 2, (flat 2, tt))
warned_shallow (warning.Unreached p) = (flat 2, tt)
warned_shallow (warning.Unnamed p) = (flat 2, tt)
warned_shallow (warning.Unused id) = (flat 2, tt)
warned_shallow (warning.SetFails id pairs) = (flat 2, (flat 2, tt))
warned_shallow (warning.PointFails code pairs) = (flat 2, (flat 2, tt))

warning_shallow : (w : Warning) → AreShallow 2 (warning_members w)
warning_shallow w = (flat 2, warned_shallow w)

changes_shallow : (changes : List Change) → depth (list_member (codes "changes") change_members changes).1 ≤ 4
changes_shallow changes = listed change_members change_shallow changes

link_shallow : (o : Option LinkRef) → AllByRecursion (λ j. depth j ≤ 3) (link_items o)
link_shallow None = tt
link_shallow (Some link) = (object_shallow 2 (link_members link) (flat 2, (flat 2, tt)), tt)

offer_shallow : (o : Offer) → AreShallow 2 (offer_members o)
offer_shallow (offer.Far far) = (flat 2, tt)
offer_shallow (offer.Down set far) = (flat 2, (flat 2, (flat 2, (flat 2, (mapped 1 marked_value (λ link. flat 1) set.links, (flat 2, tt))))))
offer_shallow offer.Unjoined = tt

way_shallow : (way : Way) → AreShallow 2 (way_members way)
way_shallow way = (flat 2, (flat 2, both (λ (m : Member). depth m.1 ≤ 2) (offer_members way.offer) _ (offer_shallow way.offer) (flat 2, tt)))

-- ---- answers

reply_shallow : (r : Reply) → AreShallow 4 (reply_members r)
reply_shallow (reply.Taken n) = (flat 4, (flat 4, tt))
reply_shallow (reply.Again n) = (flat 4, (flat 4, tt))
reply_shallow (reply.Opened opened) = (flat 4, (flat 4, (flat 4, tt)))
reply_shallow (reply.Job version dest) = (flat 4, (flat 4, (flat 4, tt)))
reply_shallow reply.Given = (flat 4, tt)
reply_shallow reply.Abandoned = (flat 4, tt)
reply_shallow (reply.Version n accepted) = (flat 4, (flat 4, (flat 4, tt)))
reply_shallow (reply.Watch is_on) = (flat 4, (flat 4, tt))
reply_shallow (reply.Last seq) = (flat 4, (flat 4, tt))
reply_shallow reply.Quit = (flat 4, tt)

number_shallow : (o : Option ℕ) → depth (number_if o) ≤ 4
number_shallow None = flat 4
number_shallow (Some n) = flat 4

publication_shallow : (p : Publication) → AreShallow 4 (publication_members p)
publication_shallow (publication.Published n moved) = (flat 4, (flat 4, tt))
publication_shallow (publication.Synced n moved) = (flat 4, (flat 4, tt))
publication_shallow (publication.Changes n moved) = (flat 4, (flat 4, (number_shallow moved.since, moves_shallow moved.counts moved.reroutes)))

links_shallow : (class : ℕ) (links : List (Option LinkRef)) → depth (links_value class links) ≤ 4
links_shallow class links = either (λ j. depth j ≤ 4) (class == 0) _ _ (flat 4) (flat_mapped 3 link_items link_shallow links)

octets_shallow : (o : Option (List ℕ)) → depth (octets_value o) ≤ 4
octets_shallow None = flat 4
octets_shallow (Some octets) = mapped 3 octet_value (λ octet. flat 3) octets

mend_shallow : (o : Option (List SetLink)) → depth (mend_member o).1 ≤ 4
mend_shallow None = flat 4
mend_shallow (Some links) = listed mend_members (λ l. (flat 2, (flat 2, tt))) links

chosen_shallow : (c : Choice) → AreShallow 4 (choice_members c)
chosen_shallow c = deeper (choice_members c) (choice_shallow c)
  where
    deeper : (ms : List Member) → AreShallow 1 ms → AreShallow 4 ms
    deeper [] h = tt
    deeper (m ∷ ms) h = let d = h.0 in (omega arith, deeper ms h.1)

by_shallow : (o : Option ℕ) → depth (code_if o) ≤ 2
by_shallow None = flat 2
by_shallow (Some code) = flat 2

remedy_shallow : (o : Option (List Action)) → depth (remedy_member o).1 ≤ 4
remedy_shallow None = flat 4
remedy_shallow (Some actions) = listed action_members (λ a. (flat 2, (flat 2, (flat 2, (by_shallow a.by, tt))))) actions

row_shallow : (r : RowAnswer) → AreShallow 4 (row_values r)
row_shallow (row.Status choice) = chosen_shallow choice
row_shallow (row.Links class links) = (links_shallow class links, tt)
row_shallow (row.Messages messages) = (listed message_members (λ m. (flat 2, (flat 2, tt))) messages, tt)
row_shallow (row.Octets octets) = (octets_shallow octets, tt)
row_shallow (row.Why far ways) = (flat 4, (listed way_members way_shallow ways, tt))
row_shallow (row.Mend links) = (mend_shallow links, tt)
row_shallow (row.Remedy remedy) = (remedy_shallow remedy, tt)

hops_shallow : (hops : List Hop) → depth (list_member (codes "hops") hop_members hops).1 ≤ 4
hops_shallow hops = listed hop_members (λ hop. (flat 2, (flat 2, (flat 2, tt)))) hops

trace_shallow : (t : Trace) → AreShallow 4 (trace_members t)
trace_shallow (Trace.Reached hops) = (flat 4, (hops_shallow hops, tt))
trace_shallow Trace.Stopped = (flat 4, (hops_shallow [], tt))

net_shallow : (n : NetAnswer) → AreShallow 4 (net_values n)
net_shallow (net.Trace trace) = trace_shallow trace
net_shallow (net.WhatIf report) = (flat 4, (changes_shallow report.changes, tt))
net_shallow (net.Right count) = (flat 4, (flat 4, tt))
net_shallow (net.Wrong dest complaint) = (flat 4, (flat 4, (flat 4, (flat 4, tt))))
net_shallow (net.Picture file picture) = (flat 4, tt)
net_shallow (net.Drawn file) = (flat 4, tt)
net_shallow (net.Reroutes list) = moves_shallow (reroute_counts list) list
net_shallow (net.Survey survey) = (flat 4, (flat 4, (listed effect_members effect_shallow survey.effects, tt)))
net_shallow (net.Warned warnings) = (flat 4, (listed warning_members warning_shallow warnings, tt))
net_shallow (net.Saving file network) = (flat 4, tt)
net_shallow (net.Saved file) = (flat 4, tt)

code_shallow : (o : Option ℕ) → depth (code_if o) ≤ 4
code_shallow None = flat 4
code_shallow (Some code) = flat 4

set_shallow : (s : LinkSet) → AreShallow 4 (set_members s)
set_shallow s = (flat 4, (flat 4, (flat 4, (mapped 3 marked_value (λ link. flat 3) s.links, tt))))

point_shallow : (p : Point) (ids : List ℕ) → AreShallow 4 (point_members p ids)
point_shallow p ids = (flat 4, (flat 4, (code_shallow p.mate, (mapped 3 id_value (λ id. flat 3) ids, tt))))

shown_shallow : (s : Shown) → AreShallow 4 (shown_members s)
shown_shallow (shown.Size size) = (flat 4, (flat 4, (flat 4, (flat 4, (flat 4, (flat 4, (flat 4, (flat 4, tt))))))))
shown_shallow (shown.Down links) = (flat 4, (flat 4, (listed mend_members (λ l. (flat 2, (flat 2, tt))) links, tt)))
shown_shallow (shown.Set s) = (flat 4, (flat 4, set_shallow s))
shown_shallow (shown.Point p ids) = (flat 4, (flat 4, point_shallow p ids))
shown_shallow (shown.Plan text) = (flat 4, (flat 4, (flat 4, tt)))
shown_shallow (shown.Statuses counts statuses) =
    (flat 4, (flat 4, (flat 4, (flat 4, (listed point_status_members (λ s. (flat 2, (flat 2, tt))) statuses, tt)))))

edit_shallow : (r : Refusal) → AreShallow 4 (edit_values r)
edit_shallow (edit.Joined id) = (flat 4, tt)
edit_shallow (edit.BadRow point why) = (flat 4, (flat 4, tt))
edit_shallow r = tt

desk_shallow : (r : DeskRefusal) → AreShallow 4 (desk_members r)
desk_shallow (desk.Edit refusal) = edit_shallow refusal
desk_shallow (desk.Gap next) = (flat 4, tt)
desk_shallow (desk.Old last) = (flat 4, tt)
desk_shallow (desk.NotReady left) = (flat 4, tt)
desk_shallow (desk.Stale target) = (number_shallow target, tt)
desk_shallow r = tt

reason_shallow : (why : Reason) → AreShallow 4 (value_members why)
reason_shallow (reason.Desk refusal) = desk_shallow refusal
reason_shallow (reason.Event refused) = both (λ (m : Member). depth m.1 ≤ 4) (edit_values refused.refusal) _ (edit_shallow refused.refusal) (flat 4, tt)
reason_shallow why = tt

answer_shallow : (a : Answer) → AreShallow 4 (answer_members a)
answer_shallow (answer.Reply r) = reply_shallow r
answer_shallow (answer.AllTaken taken) = (flat 4, (flat 4, (flat 4, tt)))
answer_shallow (answer.Publication p) = publication_shallow p
answer_shallow (answer.Row r) = (flat 4, row_shallow r)
answer_shallow (answer.Net n) = (flat 4, net_shallow n)
answer_shallow (answer.Shown what) = shown_shallow what
answer_shallow (answer.Who list) = (flat 4, (listed seat_members (λ s. (flat 2, (flat 2, tt))) list, tt))
answer_shallow (answer.Help text) = (flat 4, (flat 4, tt))
answer_shallow (answer.Refused why) = (flat 4, (flat 4, reason_shallow why))

-- what reads back as the tokens of an answer's object reads as that object
pub answer_reads : (a : Answer) (text : List ℕ) → tokens text ≡ json_tokens (answer_object a) → document text ≡ Some (answer_object a)
answer_reads a text lexed =
    let deep = object_shallow 4 (answer_members a) (answer_shallow a) in
    ap (option_and_then (λ p. if_last p.0 p.1))
    (ap (value max_depth) (lexed ∙ sym (append-nil (json_tokens (answer_object a)))) ∙ value-json_tokens (answer_object a) max_depth [] (omega arith))
