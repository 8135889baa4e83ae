-- What a list of events would change or move in which the changes of whole sets and points stand (own, after Q.704 clause 10).
use Rattle.std.specs.Prelude.{ℕ, ◌+◌, List, [], ◌∷◌, ◌++◌, Result, Ok, Err}
use Rattle.net_data.specs.declared.events.Event.{Event}
use Rattle.net_data.specs.declared.events.Refusal.{Refusal}
use Rattle.net_data.specs.Network.{Network}
use Rattle.net_data.specs.Edits.{apply_all, replay}
use Rattle.net_building.specs.Wholes.{meant}
use Rattle.net_building.specs.declared.wholes.Listed.{Listed}
use Rattle.what_if.specs.declared.reports.Refused.{Refused}
use Rattle.what_if.specs.declared.reports.Report.{Report}
use Rattle.what_if.specs.declared.reroutes.Reroute.{Reroute}
use Rattle.what_if.specs.Reports.{report_between}
use Rattle.what_if.specs.Reroutes.{reroutes}

-- some events, and those of later entries
abbrev pub before_more : List Event → Result (List Event) Refused → Result (List Event) Refused
before_more events (Ok more) = Ok (events ++ more)
before_more events (Err refused) = Err refused

-- the entry of a place means these events, of which the network accepts all, or refuses one; what comes later is meant in the network after them
abbrev pub if_accepted : ℕ → List Event → Result Network Refusal → (Network → Result (List Event) Refused) → Result (List Event) Refused
if_accepted place events (Ok new) later = before_more events (later new)
if_accepted place events (Err refusal) later = Err (record { place = place; refusal = refusal })

abbrev pub at_entry : ℕ → Network → Result (List Event) Refusal → (Network → Result (List Event) Refused) → Result (List Event) Refused
at_entry place net (Ok events) later = if_accepted place events (apply_all net events) later
at_entry place net (Err refusal) later = Err (record { place = place; refusal = refusal })

-- the events that a list means, from this place on, each entry in the network that those before it make; or the first entry that is refused, with its place
abbrev pub meant_from : ℕ → Network → List Listed → Result (List Event) Refused
meant_from place net [] = Ok []
meant_from place net (entry ∷ entries) = at_entry place net (meant net entry) (λ new. meant_from (place + 1) new entries)

-- what the events change that a list means, or the refusal
abbrev pub report_meant : Network → Result (List Event) Refused → Result Report Refused
report_meant net (Ok events) = Ok (report_between net (replay net events) events)
report_meant net (Err refused) = Err refused

abbrev pub report_listed : Network → List Listed → Result Report Refused
report_listed net entries = report_meant net (meant_from 1 net entries)

-- what they move, or the refusal
abbrev pub reroutes_meant : Network → Result (List Event) Refused → Result (List Reroute) Refused
reroutes_meant net (Ok events) = Ok (reroutes net (replay net events))
reroutes_meant net (Err refused) = Err refused

abbrev pub reroutes_listed : Network → List Listed → Result (List Reroute) Refused
reroutes_listed net entries = reroutes_meant net (meant_from 1 net entries)
