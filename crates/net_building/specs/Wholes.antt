-- Changes of whole sets and points, and lists of events in which they stand (own).
use Rattle.std.specs.Prelude.{ℕ, ◌==◌, List, [], ◌∷◌, map, filter, Option, Some, None, Result, Ok, Err, is_some, if◌then◌else◌}
use Rattle.std.specs.List.{flat_map}
use Rattle.std.specs.Option.{option_map_or}
use Rattle.link_state.specs.declared.marks.End.{End}
use Rattle.link_state.specs.declared.marks.End.TheVariants.{First, Second}
use Rattle.link_state.specs.declared.marks.LinkChange.{LinkChange}
use Rattle.link_state.specs.declared.marks.LinkChange.TheVariants.{Fail, Restore, Block, Unblock, Inhibit, Uninhibit}
use Rattle.net_items.specs.declared.links.Link.{Link}
use Rattle.net_items.specs.declared.items.LinkSet.{LinkSet}
use Rattle.net_items.specs.Lookups.{has_point, set_at}
use Rattle.net_sets.specs.Sets.{is_end}
use Rattle.net_data.specs.declared.events.Event.{Event}
use Rattle.net_data.specs.declared.events.Event.TheVariants as on
use Rattle.net_data.specs.declared.events.Refusal.{Refusal}
use Rattle.net_data.specs.declared.events.Refusal.TheVariants.{NoPoint, NoSet}
use Rattle.net_data.specs.Network.{Network}
use Rattle.net_building.specs.declared.wholes.Whole.{Whole}
use Rattle.net_building.specs.declared.wholes.Whole.TheVariants as whole
use Rattle.net_building.specs.declared.wholes.Listed.{Listed}
use Rattle.net_building.specs.declared.wholes.Listed.TheVariants as listed

-- the other end of a set
abbrev pub other_end : End → End
other_end First = Second
other_end Second = First

-- the same change, made at the other end
abbrev pub turned : LinkChange → LinkChange
turned Fail = Fail
turned Restore = Restore
turned (Block end) = Block (other_end end)
turned (Unblock end) = Unblock (other_end end)
turned (Inhibit end) = Inhibit (other_end end)
turned (Uninhibit end) = Uninhibit (other_end end)

-- the change as a set that ends at the point has it: the point's own end is told as the first
abbrev pub change_seen_at : ℕ → LinkChange → LinkSet → LinkChange
change_seen_at point change set = if set.a == point then change else turned change

-- the change of each link of a set, in rising code
abbrev pub changes_in : LinkChange → LinkSet → List Event
changes_in change set = map (λ (l : Link). on.Link set.id l.slc change) set.links

-- the change of each link of a set that ends at the point
abbrev pub changes_at : ℕ → LinkChange → LinkSet → List Event
changes_at point change set = changes_in (change_seen_at point change set) set

-- the events that the change of a whole set or point means in a network: of a point set by set, in rising id
abbrev pub whole_events : Network → Whole → List Event
whole_events net (whole.Set id change) = option_map_or (changes_in change) (set_at net.sets id) []
whole_events net (whole.Point point change) = flat_map (changes_at point change) (filter (is_end point) net.sets)

-- why it is refused: there is no such set, or no such point
abbrev pub whole_refusal : Network → Whole → Option Refusal
whole_refusal net (whole.Set id change) = if is_some (set_at net.sets id) then None else Some NoSet
whole_refusal net (whole.Point point change) = if has_point net.points point then None else Some NoPoint

-- the events, if nothing refuses them
abbrev pub unless_whole_refused : Option Refusal → List Event → Result (List Event) Refusal
unless_whole_refused (Some refusal) events = Err refusal
unless_whole_refused None events = Ok events

-- what stands in a list of events means in a network: an event itself, and a change of a whole set or point its events
abbrev pub meant : Network → Listed → Result (List Event) Refusal
meant net (listed.Event event) = Ok (event ∷ [])
meant net (listed.Whole changed) = unless_whole_refused (whole_refusal net changed) (whole_events net changed)
