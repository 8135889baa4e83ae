-- The messages in force, and what they tell (Q.704 clauses 13.2 to 13.4).
use Rattle.std.specs.Prelude.{ℕ, ◌==◌, Bool, false, Option, if◌then◌else◌}
use Rattle.std.specs.List.{list_any}
use Rattle.std.specs.Option.{option_map_or}
use Rattle.route_choice.specs.declared.choices.Far.{Far}
use Rattle.point_codes.specs.declared.kinds.MsgKind.{MsgKind}
use Rattle.route_choice.specs.declared.choices.Choice.{Choice}

-- the member is this point
abbrev pub is_at : ℕ → Option ℕ → Bool
is_at z m = option_map_or (λ v. v == z) m false

-- the point is a member of the choice
abbrev pub is_member : ℕ → Choice → Bool
is_member z c = list_any (is_at z) c.members

-- the message that tells a status: allowed by 13.3, restricted by 13.4, prohibited by 13.2
abbrev pub kind_for : Far → MsgKind
kind_for Far.Allowed = MsgKind.Tfa
kind_for Far.Restricted = MsgKind.Tfr
kind_for Far.Prohibited = MsgKind.Tfp

-- the message in force from a point with this choice to a point z: prohibited if z is used (Q.704 clause 13.2), and else the status
abbrev pub message : Choice → ℕ → MsgKind
message c z = if is_member z c then MsgKind.Tfp else kind_for c.status

-- the status that a message tells
abbrev pub reading : MsgKind → Far
reading MsgKind.Tfa = Far.Allowed
reading MsgKind.Tfr = Far.Restricted
reading MsgKind.Tfp = Far.Prohibited
