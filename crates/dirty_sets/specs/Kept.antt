-- The events after which tables read the same sets as before.
use Rattle.std.specs.Prelude.{ℕ, Bool, true, false, ◌==◌}
use Rattle.net_data.specs.declared.events.Event.{Event}
use Rattle.net_data.specs.declared.events.Event.TheVariants as on

-- the event is on points, on links or on the option
abbrev pub keeps_reads : Event → Bool
keeps_reads (on.Link id slc change) = true
keeps_reads (on.AddPoint c kind) = true
keeps_reads (on.RemovePoint c) = true
keeps_reads (on.Pair p q) = true
keeps_reads (on.Unpair p) = true
keeps_reads (on.AddLink id slc) = true
keeps_reads (on.RemoveLink id slc) = true
keeps_reads (on.SetTfr tfr) = true
keeps_reads _ = false

-- the event is on that set, which is there
abbrev pub is_on_set : ℕ → Event → Bool
is_on_set n (on.Link id slc change) = id == n
is_on_set n (on.RemoveSet id) = id == n
is_on_set n (on.AddLink id slc) = id == n
is_on_set n (on.RemoveLink id slc) = id == n
is_on_set n _ = false

-- the event is on points
abbrev pub touches_none : Event → Bool
touches_none (on.AddPoint c kind) = true
touches_none (on.RemovePoint c) = true
touches_none (on.Pair p q) = true
touches_none (on.Unpair p) = true
touches_none _ = false
