-- What a list of events would change (own, after Q.704 clause 10).
use Rattle.std.specs.Prelude.{◌≡◌, ℕ, ◌+◌, Bool, true, false, ◌&&◌, not, List, [], ◌∷◌, Option, Some, None, Result, Ok, Err, if◌then◌else◌, map, ◌⊎◌}
use Rattle.std.specs.List.{list_any, flat_map}
use Rattle.std.specs.Option.{option_map, option_map_or, option_and_then}
use Rattle.link_state.specs.declared.marks.LinkChange.{LinkChange}
use Rattle.link_state.specs.declared.marks.LinkChange.TheVariants.{Inhibit}
use Rattle.net_items.specs.declared.items.Plan.{Plan}
use Rattle.net_items.specs.Keyed.{put}
use Rattle.net_items.specs.Lookups.{row_at}
use Rattle.net_data.specs.declared.events.Event.{Event}
use Rattle.net_data.specs.declared.events.Event.TheVariants as on
use Rattle.net_data.specs.declared.events.Refusal.TheVariants.{OutOfMemory}
use Rattle.net_data.specs.Network.{Network}
use Rattle.net_data.specs.Edits.{refusal_of, changed}
use Rattle.route_choice.specs.declared.choices.Choice.{Choice}
use Rattle.route_choice.specs.declared.choices.Far.{Far}
use Rattle.route_choice.specs.declared.choices.Far.TheVariants.{Prohibited}
use Rattle.route_choice.specs.Routes.{same_far}
use Rattle.profile.specs.Status.{choice}
use Rattle.excerpts.specs.Excerpt.{ExcerptValue, excerpt_at, excerpt_in, source_of}
use Rattle.transfer_state.specs.Routing.{RoutingValue, settled_routing}
use Rattle.what_if.specs.declared.changes.Change.{Change}
use Rattle.what_if.specs.declared.reports.Refused.{Refused}
use Rattle.what_if.specs.declared.reports.Report.{Report}

-- the codes of two lists, each once: those of the first put among the second, which rise
abbrev pub both : List ℕ → List ℕ → List ℕ
both [] ys = ys
both (x ∷ xs) ys = both xs (put (λ n. n) x ys)

-- the destinations that are planned
abbrev pub dests : Network → List ℕ
dests net = map (λ (p : Plan). p.dest) net.plans

-- the points with a row, if there is a plan
abbrev pub points : Option ExcerptValue → List ℕ
points x = option_map_or (λ e. map (λ row. row.point) e.plan.rows) x []

-- the choice of a point by the table from scratch: none if there is no plan, or no row
abbrev pub choice_of : Option ExcerptValue → ℕ → Option Choice
choice_of x y = option_and_then (λ e. option_map (choice (source_of e)) (row_at e.plan.rows y)) x

-- its status
abbrev pub status_of : Option ExcerptValue → ℕ → Option Far
status_of x y = option_map (λ (c : Choice). c.status) (choice_of x y)

-- whether two statuses are the same
abbrev pub is_same : Option Far → Option Far → Bool
is_same None None = true
is_same None (Some g) = false
is_same (Some f) None = false
is_same (Some f) (Some g) = same_far f g

-- the change of a point towards a destination, where its status before and after differs
abbrev pub change_between : Option ExcerptValue → Option ExcerptValue → ℕ → ℕ → List Change
change_between old new x y =
    if is_same (status_of old y) (status_of new y) then []
    else record { point = y; dest = x; before = status_of old y; after = status_of new y } ∷ []

-- what is told of a point towards a destination, before and after
abbrev pub Account : Type 0 → Type 0
Account X = Option ExcerptValue → Option ExcerptValue → ℕ → ℕ → List X

-- what is told towards a destination, of each point that has a row before or after
abbrev pub each_point : {X : Type 0} → Account X → Option ExcerptValue → Option ExcerptValue → ℕ → List X
each_point tell old new x = flat_map (tell old new x) (both (points old) (points new))

-- and so towards each destination that is planned before or after, from a network to another
abbrev pub each_dest : {X : Type 0} → Account X → Network → Network → List X
each_dest tell old new = flat_map (λ x. each_point tell (excerpt_at old x) (excerpt_at new x) x) (both (dests old) (dests new))

-- what is told towards the destination of a plan that both networks have
abbrev pub told_of_plan : {X : Type 0} → Account X → Network → Network → Plan → List X
told_of_plan tell old new plan = each_point tell (Some (excerpt_in old plan)) (Some (excerpt_in new plan)) plan.dest

-- nothing is told of two settled routings whose rows are of the same points
abbrev pub IsQuiet : {X : Type 0} → Account X → RoutingValue → Option RoutingValue → Type 0
IsQuiet tell before None = ⊥
IsQuiet tell before (Some after) =
    before ≡ settled_routing before.excerpt → after ≡ settled_routing after.excerpt
    → map (λ row. row.point) before.excerpt.plan.rows ≡ map (λ row. row.point) after.excerpt.plan.rows → (x y : ℕ) → tell (Some before.excerpt) (Some after.excerpt) x y ≡ []

-- the changes from a network to another
abbrev pub changes : Network → Network → List Change
changes = each_dest change_between

-- allowed or restricted
abbrev pub is_usable : Option Far → Bool
is_usable None = false
is_usable (Some f) = not (same_far f Prohibited)

-- prohibited
abbrev pub is_prohibited : Option Far → Bool
is_prohibited None = false
is_prohibited (Some f) = same_far f Prohibited

-- from allowed or restricted to prohibited
abbrev pub is_loss : Change → Bool
is_loss change = is_usable change.before && is_prohibited change.after

-- the inhibition of a link, by either end
abbrev pub inhibits : LinkChange → Bool
inhibits (Inhibit end) = true
inhibits change = false

-- an event that inhibits a link
abbrev pub is_inhibit : Event → Bool
is_inhibit (on.Link id slc change) = inhibits change
is_inhibit event = false

-- the network after the events, one after the other from this place on (`apply_all`); the first that is refused, with its place
abbrev pub apply_from : ℕ → Network → List Event → Result Network Refused
apply_from place net [] = Ok net
apply_from place net (event ∷ events) =
    option_map_or (λ refusal. Err (record { place = place; refusal = refusal })) (refusal_of net event) (apply_from (place + 1) (changed net event) events)

-- what changes from a network to another; denied where an event inhibits a link and something is lost
abbrev pub report_between : Network → Network → List Event → Report
report_between old new events = record { changes = changes old new; denied = list_any is_inhibit events && list_any is_loss (changes old new) }

-- what is reported of a network that the events make, or the refusal
abbrev pub report_after : Network → List Event → Result Network Refused → Result Report Refused
report_after old events (Ok new) = Ok (report_between old new events)
report_after old events (Err refused) = Err refused

-- what is reported of the events, made one after the other on the network
abbrev pub report_of : Network → List Event → Result Report Refused
report_of net events = report_after net events (apply_from 1 net events)

-- out of memory
abbrev pub no_memory : Refused
no_memory = record { place = 0; refusal = OutOfMemory }

-- the answer: the report or the refusal; out of memory may be told in the place of either
abbrev pub IsReported : Network → List Event → Result Report Refused → Type 0
IsReported net events result = (result ≡ report_of net events) ⊎ (result ≡ Err no_memory)
