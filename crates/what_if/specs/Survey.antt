-- What single failures would take, and single repairs bring back (own, after Q.704 clauses 3.2 and 10).
use Rattle.std.specs.Prelude.{ℕ, ◌==◌, ◌&&◌, ◌||◌, not, nat_lt, Bool, List, [], ◌∷◌, length, map, filter, Result, Ok, Err}
use Rattle.link_state.specs.declared.marks.End.TheVariants.{First, Second}
use Rattle.link_state.specs.declared.marks.LinkChange.{LinkChange}
use Rattle.link_state.specs.declared.marks.LinkChange.TheVariants.{Fail, Restore, Unblock, Uninhibit}
use Rattle.net_items.specs.declared.items.LinkSet.{LinkSet}
use Rattle.net_items.specs.declared.items.Point.{Point}
use Rattle.net_items.specs.Lookups.{kind_is_stp}
use Rattle.net_data.specs.declared.events.Event.{Event}
use Rattle.net_data.specs.Network.{Network}
use Rattle.net_data.specs.Edits.{replay}
use Rattle.net_building.specs.declared.surveyed.Surveyed.{Surveyed}
use Rattle.net_building.specs.declared.surveyed.Surveyed.TheVariants as surveyed
use Rattle.net_building.specs.declared.wholes.Listed.{Listed}
use Rattle.net_building.specs.declared.wholes.Listed.TheVariants as listed
use Rattle.net_building.specs.declared.wholes.Whole.TheVariants as whole
use Rattle.link_sets.specs.Availability.{set_available}
use Rattle.what_if.specs.declared.changes.Change.{Change}
use Rattle.what_if.specs.declared.reports.Refused.{Refused}
use Rattle.what_if.specs.declared.reports.Report.{Report}
use Rattle.what_if.specs.declared.survey.Effect.{Effect}
use Rattle.what_if.specs.declared.survey.Single.{Single}
use Rattle.what_if.specs.declared.survey.Single.TheVariants as single
use Rattle.what_if.specs.declared.survey.Survey.{Survey}
use Rattle.what_if.specs.Listed.{meant_from, report_listed}
use Rattle.what_if.specs.Reports.{is_loss, is_prohibited, is_usable}

-- ---- what is tried

-- the change of each link of a set, as it stands in a list of events
abbrev pub of_set : ℕ → LinkChange → Listed
of_set id change = listed.Whole (whole.Set id change)

-- what a single failure or repair is in a list of events: a repair takes all marks from each link of the set
abbrev pub tried : Single → List Listed
-- `set fail ID`
tried (single.SetFails id) = of_set id Fail ∷ []
-- `point fail CODE`
tried (single.PointFails code) = listed.Whole (whole.Point code Fail) ∷ []
-- `set restore ID`, and so `unblock` and `uninhibit` at both ends
tried (single.SetRestored id) =
    of_set id Restore ∷ of_set id (Unblock First) ∷ of_set id (Unblock Second) ∷ of_set id (Uninhibit First) ∷ of_set id (Uninhibit Second) ∷ []

-- the transfer points
abbrev pub is_transfer : Point → Bool
is_transfer point = kind_is_stp point.kind

-- no link of the set is available (Q.704 clause 3.2)
abbrev pub is_down : LinkSet → Bool
is_down set = not (set_available set)

-- what of a network is tried, one after the other
abbrev pub singles : Surveyed → Network → List Single
singles surveyed.Sets net = map (λ (s : LinkSet). single.SetFails s.id) (filter set_available net.sets)
singles surveyed.Points net = map (λ (p : Point). single.PointFails p.code) (filter is_transfer net.points)
singles surveyed.Down net = map (λ (s : LinkSet). single.SetRestored s.id) (filter is_down net.sets)

-- ---- what it takes or brings back

-- from prohibited to allowed or restricted
abbrev pub is_gain : Change → Bool
is_gain change = is_prohibited change.before && is_usable change.after

-- the change is of this point, or of what is told towards it
abbrev pub is_about : ℕ → Change → Bool
is_about code change = change.point == code || change.dest == code

-- which changes count: losses where something fails, but not those of a point that fails itself; gains where a set is restored
abbrev pub is_counted : Single → Change → Bool
is_counted (single.SetFails id) change = is_loss change
is_counted (single.PointFails code) change = is_loss change && not (is_about code change)
is_counted (single.SetRestored id) change = is_gain change

-- how many count; nothing is tried that is refused
abbrev pub count_in : Single → Result Report Refused → ℕ
count_in tried (Ok report) = length (filter (is_counted tried) report.changes)
count_in tried (Err refused) = 0

-- how many pairs of a point and a destination are taken or brought back: those that a what-if of this alone tells
abbrev pub pairs_by : Network → Single → ℕ
pairs_by net one = count_in one (report_listed net (tried one))

-- what is tried, with that number
abbrev pub effect_of : Network → Single → Effect
effect_of net one = record { single = one; pairs = pairs_by net one }

-- some pair is taken or brought back
abbrev pub has_effect : Effect → Bool
has_effect effect = nat_lt 0 effect.pairs

-- the survey in which all that is tried has these effects: how much that is, and what has one, in its order
abbrev pub survey_from : Surveyed → List Effect → Survey
survey_from what all = record { surveyed = what; tried = length all; effects = filter has_effect all }

-- the survey of a network
abbrev pub survey_of : Surveyed → Network → Survey
survey_of what net = survey_from what (map (effect_of net) (singles what net))

-- ---- after events

-- the survey of the network that the events make which a list means, or the refusal
abbrev pub survey_meant : Surveyed → Network → Result (List Event) Refused → Result Survey Refused
survey_meant what net (Ok events) = Ok (survey_of what (replay net events))
survey_meant what net (Err refused) = Err refused

abbrev pub survey_listed : Surveyed → Network → List Listed → Result Survey Refused
survey_listed what net entries = survey_meant what net (meant_from 1 net entries)
