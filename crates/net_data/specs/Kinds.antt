-- What an event is about.
use Rattle.std.specs.Prelude.{Bool, true, false}
use Rattle.net_data.specs.declared.events.Event.{Event}
use Rattle.net_data.specs.declared.events.Event.TheVariants as on

-- a change of a link's marks
abbrev pub is_link : Event → Bool
is_link (on.Link id slc change) = true
is_link _ = false

-- links: their marks, new ones and those that go
abbrev pub is_of_links : Event → Bool
is_of_links (on.Link id slc change) = true
is_of_links (on.AddLink id slc) = true
is_of_links (on.RemoveLink id slc) = true
is_of_links _ = false

-- points and pairs
abbrev pub is_of_points : Event → Bool
is_of_points (on.AddPoint code kind) = true
is_of_points (on.RemovePoint code) = true
is_of_points (on.Pair p q) = true
is_of_points (on.Unpair p) = true
is_of_points _ = false

-- sets
abbrev pub is_of_sets : Event → Bool
is_of_sets (on.AddSet id a b slcs) = true
is_of_sets (on.RemoveSet id) = true
is_of_sets _ = false

-- plans, and the option of transfer-restricted messages
abbrev pub is_of_plans : Event → Bool
is_of_plans (on.SetPlan plan) = true
is_of_plans (on.DropPlan dest) = true
is_of_plans (on.SetTfr tfr) = true
is_of_plans _ = false
