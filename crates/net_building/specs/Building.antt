-- The events of a network, and the empty one that they start from.
use Rattle.std.specs.Prelude.{ℕ, nat_lt, Bool, true, false, not, List, [], ◌∷◌, ◌++◌, map, filter, if◌then◌else◌}
use Rattle.std.specs.List.{flat_map}
use Rattle.std.specs.Option.{option_map_or}
use Rattle.link_state.specs.declared.marks.End.TheVariants.{First, Second}
use Rattle.link_state.specs.declared.marks.LinkChange.{LinkChange}
use Rattle.link_state.specs.declared.marks.LinkChange.TheVariants.{Restore, Block, Inhibit}
use Rattle.link_state.specs.declared.marks.Marks.{Marks}
use Rattle.net_items.specs.declared.links.Link.{Link}
use Rattle.net_items.specs.declared.items.Point.{Point}
use Rattle.net_items.specs.declared.items.LinkSet.{LinkSet}
use Rattle.net_items.specs.declared.items.Plan.{Plan}
use Rattle.net_data.specs.declared.events.Event.{Event}
use Rattle.net_data.specs.declared.events.Event.TheVariants as on
use Rattle.net_data.specs.Network.{Network}

-- the empty network of the same network indicator, with the option of transfer-restricted messages
abbrev pub empty_of : Network → Network
empty_of net = record { ni = net.ni; tfr = true; points = []; sets = []; plans = [] }

-- a point, without its mate
abbrev pub point_event : Point → Event
point_event p = on.AddPoint p.code p.kind

-- a point and its mate, told once: at the one of the lower code
abbrev pub pair_events : Point → List Event
pair_events p = option_map_or (λ m. if nat_lt p.code m then on.Pair p.code m ∷ [] else []) p.mate []

-- whether a new link, which is failed alone, needs the change to have these marks
abbrev pub is_needed : LinkChange → Marks → Bool
is_needed Restore m = not m.failed
is_needed (Block First) m = m.blocked_a
is_needed (Block Second) m = m.blocked_b
is_needed (Inhibit First) m = m.inhibited_a
is_needed (Inhibit Second) m = m.inhibited_b
is_needed _ m = false

-- the change for each link that needs it
abbrev pub changes_of : ℕ → List Link → LinkChange → List Event
changes_of id links change = map (λ (l : Link). on.Link id l.slc change) (filter (λ (l : Link). is_needed change l.marks) links)

-- the event that adds a set, whose links are failed alone
abbrev pub added_set : LinkSet → Event
added_set s = on.AddSet s.id s.a s.b (map (λ (l : Link). l.slc) s.links)

-- the changes that give the links of a new set their marks
abbrev pub mark_events : LinkSet → List Event
mark_events s = flat_map (changes_of s.id s.links) (Restore ∷ Block First ∷ Block Second ∷ Inhibit First ∷ Inhibit Second ∷ [])

-- a set, and the marks of its links
abbrev pub set_events : LinkSet → List Event
set_events s = added_set s ∷ mark_events s

abbrev pub plan_event : Plan → Event
plan_event p = on.SetPlan p

-- the events that make a network out of the empty one
abbrev pub events_of : Network → List Event
events_of net =
    on.SetTfr net.tfr
    ∷ (map point_event net.points ++ (flat_map pair_events net.points ++ (flat_map set_events net.sets ++ map plan_event net.plans)))
